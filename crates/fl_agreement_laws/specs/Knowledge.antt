-- What a desk sees of its node's list, in a world, and when another knows no less.
use Rattle.std.specs.Prelude.{◌≡◌, ◌≢◌, ◌≤◌, ℕ}
use Rattle.std.specs.declared.option.Option.TheVariants.{Some}
use Rattle.fl_labels.specs.declared.pid.Pid.{Pid}
use Rattle.fl_ops.specs.declared.op.Op.{Op}
use Rattle.fl_jobs.specs.declared.answer.Reply.TheVariants.{Yes, NotYet}
use Rattle.fl_bench.specs.declared.process.Process.{Process}
use Rattle.fl_system.specs.declared.reply.Reply.{Reply}
use Rattle.fl_system.specs.declared.reply.Reply.TheVariants.{Job as Answered}
use Rattle.fl_system.specs.Numbered.{item_at}
use Rattle.fl_system.specs.Processes.{process_of}
use Rattle.fl_system.specs.State.{first_ops}
use Rattle.fl_system.specs.World.{World, KeptNode}
use Rattle.fl_system.specs.WorldSteps.{IsAt}

-- yes, or not yet
abbrev pub IsAnswer : Reply → Type 0
IsAnswer (Answered Yes) = Unit {0}
IsAnswer (Answered NotYet) = Unit {0}
IsAnswer other = ⊥

-- the desk of the node of this number sees the operation
pub record Sees (w : World) (number desk : ℕ) (op : Op) : Type 0 where
  pub s : KeptNode
  pub at : IsAt w number s
  pub v : ℕ
  pub view : item_at s.node.views desk ≡ Some v
  pub seen : first_ops v s.node.published op

-- it sees the first v operations of the list
pub record SeesSoMany (w : World) (number desk v : ℕ) : Type 0 where
  pub s : KeptNode
  pub at : IsAt w number s
  pub view : item_at s.node.views desk ≡ Some v

-- the node of this number is in this boot
pub record HasBoot (w : World) (number boot : ℕ) : Type 0 where
  pub s : KeptNode
  pub at : IsAt w number s
  pub boot_is : s.node.boot ≡ boot

-- the process stands at the node of this number, under this pid
pub record HasProcess (w : World) (number : ℕ) (pid : Pid) (p : Process) : Type 0 where
  pub s : KeptNode
  pub at : IsAt w number s
  pub stands : process_of s.node pid ≡ Some p

-- In the later world the other desk of the node knows no less than the one did: it is that desk, or
-- it sees as many operations or more, or the node was opened again since.
pub data KnowsNoLess (w : World) (number desk : ℕ) (later : World) (other : ℕ) : Type 0 where
  same_desk : desk ≡ other → KnowsNoLess w number desk later other
  sees_no_less : {v v' : ℕ} → SeesSoMany w number desk v → SeesSoMany later number other v' → v ≤ v'
      → KnowsNoLess w number desk later other
  opened_since : {boot boot' : ℕ} → HasBoot w number boot → HasBoot later number boot'
      → boot ≢ boot' → KnowsNoLess w number desk later other
