-- Orders that ask first what an emission asks: everybody reads them.
use Rattle.std.specs.Prelude.{◌≡◌, ◌≢◌, ◌<◌, ℕ, List}
use Rattle.std.specs.List.{slice_get}
use Rattle.std.specs.declared.option.Option.TheVariants.{Some}
use Rattle.fl_labels.specs.declared.pid.Pid.{Pid}
use Rattle.fl_jobs.specs.declared.answer.Reply.TheVariants.{Emitted}
use Rattle.fl_jobs.specs.declared.job.Act.TheVariants.{Emit, Order as Orders}
use Rattle.fl_jobs.specs.declared.job.Job.TheVariants.{By}
use Rattle.fl_jobs.specs.declared.job.Order.{Order}
use Rattle.fl_system.specs.declared.reply.Reply.TheVariants.{Job as Answered}
use Rattle.fl_machine_model.specs.Acts.{Job, Saying, Replies}
use Rattle.fl_machine_model.specs.Machines.{Deed, Starts, Acts, Gets, Ends, Turn}

-- the machine to which it happens
abbrev pub number_of : Deed → ℕ
number_of (Starts number k saying) = number
number_of (Acts number act saying) = number
number_of (Gets packet number saying) = number
number_of (Ends number k) = number

-- at the machine of this number the process gives an order, whatever comes of it
pub record IsOrderAt (t : Turn) (number : ℕ) (pid : Pid) : Type 0 where
  pub desk : ℕ
  pub upto : ℕ
  pub order : Order
  pub saying : Saying
  pub is : t.deed ≡ Acts number (Job desk upto (By pid (Orders order))) saying

-- at the machine of this number bytes of the process go to the outside
pub record IsEmissionAt (t : Turn) (number : ℕ) (pid : Pid) : Type 0 where
  pub desk : ℕ
  pub upto : ℕ
  pub bytes : List ℕ
  pub is : t.deed ≡ Acts number (Job desk upto (By pid (Emit bytes)))
      (Replies (Answered (Emitted bytes)))

-- just before the turn of that place, of all turns of the machine, the process let something out
pub record IsLetOut (ts : List Turn) (j number : ℕ) (pid : Pid) : Type 0 where
  pub place : ℕ
  pub turn : Turn
  pub there : slice_get ts place ≡ Some turn
  pub emits : IsEmissionAt turn number pid
  pub before : place < j
  pub alone : (k : ℕ) (t : Turn) → place < k → k < j → slice_get ts k ≡ Some t
      → number_of t.deed ≢ number

-- before each order
abbrev pub GuardOrders : List Turn → Type 0
GuardOrders ts = (j number : ℕ) (t : Turn) (pid : Pid) → slice_get ts j ≡ Some t
    → IsOrderAt t number pid → IsLetOut ts j number pid
