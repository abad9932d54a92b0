-- Whether a node has what a job names.
use Rattle.std.specs.Prelude.{◌≡◌, ℕ}
use Rattle.std.specs.declared.option.Option.TheVariants.{None}
use Rattle.fl_jobs.specs.declared.job.Job.{Job}
use Rattle.fl_system.specs.Numbered.{item_at}
use Rattle.fl_system.specs.State.{NodeState}
use Rattle.fl_system.specs.WorldSteps.{IsArrival}
use Rattle.fl_node.specs.Desks.{IsDeskOf}

-- the desk is not there, or the job is an arrival, which only packets make
pub data IsNoSuch (n : NodeState) (desk : ℕ) (job : Job) : Type 0 where
  no_desk : item_at n.views desk ≡ None → IsNoSuch n desk job
  no_job : IsArrival job → IsNoSuch n desk job

-- both are there
pub record IsThere (n : NodeState) (desk : ℕ) (job : Job) : Type 0 where
  pub stands : IsDeskOf n desk
  pub asked : ¬ IsArrival job
