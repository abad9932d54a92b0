-- What is ordered at the places of a batch, and of whom.
use Rattle.std.specs.Prelude.{ℕ, zero, suc, ◌==◌, List, [], ◌∷◌, if◌then◌else◌}
use Rattle.std.specs.declared.option.Option.{Option}
use Rattle.std.specs.declared.option.Option.TheVariants.{None, Some}
use Rattle.fl_ops.specs.declared.op.Body.{Body}
use Rattle.fl_jobs.specs.declared.job.Act.TheVariants.{Order}
use Rattle.fl_jobs.specs.declared.job.Job.{Job}
use Rattle.fl_jobs.specs.declared.job.Job.TheVariants.{By}
use Rattle.fl_bench.specs.Process.{body_of}
use Rattle.fl_dealing.specs.declared.item.Item.{Item}
use Rattle.fl_dealing.specs.declared.item.Item.TheVariants as items
use Rattle.fl_registrar.specs.declared.awaited.Awaited.{Awaited}

-- what the operation is to do, where the item orders one
abbrev pub asked_by : Item → Option Body
asked_by (items.Job (By pid (Order order))) = Some (body_of order)
asked_by other = None

-- it is awaited of its owner
abbrev pub order_by : ℕ → Option Body → Option Awaited
order_by owner None = None
order_by owner (Some body) = Some (record { worker = owner; body = body })

-- at each place, of the owner of the place
abbrev pub awaited_by : List ℕ → List (Option Body) → List (Option Awaited)
awaited_by [] bodies = []
awaited_by (o ∷ os) [] = []
awaited_by (o ∷ os) (b ∷ bs) = order_by o b ∷ awaited_by os bs

abbrev pub job_of : Item → Option Job
job_of (items.Job job) = Some job
job_of (items.Packet packet) = None

-- the job that worker w has at a place, where the item there is one and has this owner
abbrev pub job_for : List ℕ → List Item → ℕ → ℕ → Option Job
job_for [] is w place = None
job_for (o ∷ os) [] w place = None
job_for (o ∷ os) (i ∷ is) w zero = if o == w then job_of i else None
job_for (o ∷ os) (i ∷ is) w (suc place) = job_for os is w place
