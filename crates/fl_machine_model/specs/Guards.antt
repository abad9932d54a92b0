-- Orders that are done just behind an emission of their process: everybody reads an order, so who may
-- let nothing out gives none.
use Rattle.std.specs.Prelude.{◌≡◌, ℕ, List, [], ◌∷◌}
use Rattle.fl_labels.specs.declared.pid.Pid.{Pid}
use Rattle.fl_jobs.specs.declared.answer.Reply.TheVariants.{Emitted}
use Rattle.fl_jobs.specs.declared.job.Act.TheVariants.{Emit, Order as Orders}
use Rattle.fl_jobs.specs.declared.job.Job.TheVariants.{By}
use Rattle.fl_jobs.specs.declared.job.Order.{Order}
use Rattle.fl_system.specs.declared.reply.Reply.TheVariants.{Job as Answered}
use Rattle.fl_machine_model.specs.Acts.{Job, Outcome, Replies}
use Rattle.fl_machine_model.specs.Processes.{Doing, Does}

-- the process gives an order, whatever comes of it
pub record IsOrder (d : Doing) (pid : Pid) : Type 0 where
  pub desk : ℕ
  pub upto : ℕ
  pub order : Order
  pub came : Outcome
  pub is : d ≡ Does (Job desk upto (By pid (Orders order))) came

-- bytes of the process go to the outside
pub record LetsOut (d : Doing) (pid : Pid) : Type 0 where
  pub desk : ℕ
  pub upto : ℕ
  pub bytes : List ℕ
  pub came : Outcome
  pub is : d ≡ Does (Job desk upto (By pid (Emit bytes))) came
  pub says : came.says ≡ Replies (Answered (Emitted bytes))

-- behind this doing each order is
abbrev pub AreGuardedBehind : Doing → List Doing → Type 0
AreGuardedBehind before [] = Unit {0}
AreGuardedBehind before (d ∷ ds) =
    ((pid : Pid) → IsOrder d pid → LetsOut before pid) × AreGuardedBehind d ds

-- each order is, of one machine
abbrev pub AreGuarded : List Doing → Type 0
AreGuarded [] = Unit {0}
AreGuarded (d ∷ ds) = ((pid : Pid) → ¬ IsOrder d pid) × AreGuardedBehind d ds
