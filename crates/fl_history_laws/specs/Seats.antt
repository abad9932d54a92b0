-- The benches of a node, and the pids that they gave.
use Rattle.std.specs.Prelude.{◌≡◌, ◌<◌, ◌≤◌, ◌%◌, ℕ, List, length, Some}
use Rattle.fl_labels.specs.declared.pid.Pid.{Pid}
use Rattle.fl_bench.specs.Bench.{BenchState}
use Rattle.fl_bench.specs.Orderly.{IsGiven, IsOrderly}
use Rattle.fl_jobs.specs.declared.answer.Reply.TheVariants.{Made}
use Rattle.fl_system.specs.declared.reply.Reply.{Reply}
use Rattle.fl_system.specs.declared.reply.Reply.TheVariants.{Job}
use Rattle.fl_system.specs.Numbered.{item_at}
use Rattle.fl_system.specs.State.{NodeState}
use Rattle.fl_system.specs.World.{World, KeptNode}
use Rattle.fl_system.specs.WorldSteps.{IsAt}

-- what gives pids at a node
pub record Seats : Type 0 where
  pub number : ℕ
  pub boot : ℕ
  pub benches : List BenchState

abbrev pub seats : NodeState → Seats
seats n = record { number = n.number; boot = n.boot; benches = n.benches }

-- the bench gives pids of the node and its boot, with the serials of its place
pub record IsPlaced (s : Seats) (k : ℕ) (b : BenchState) : Type 0 where
  pub some : 0 < k
  pub within : k ≤ length s.benches
  pub node_is : b.node ≡ s.number
  pub boot_is : b.boot ≡ s.boot
  pub stride_is : b.stride ≡ length s.benches
  pub residue_is : b.next % length s.benches ≡ k % length s.benches
  pub orderly : IsOrderly b

pub record IsTidy (s : Seats) : Type 0 where
  pub each : (k : ℕ) (b : BenchState) → item_at s.benches k ≡ Some b → IsPlaced s k b

-- the pid was given: in an earlier boot, or by a bench of this one
pub data WasGiven (s : Seats) (pid : Pid) : Type 0 where
  earlier : pid.boot < s.boot → WasGiven s pid
  now : (k : ℕ) (b : BenchState) → item_at s.benches k ≡ Some b → IsGiven b pid → WasGiven s pid

-- by the node whose number it has
pub record WasGivenIn (w : World) (pid : Pid) : Type 0 where
  pub s : KeptNode
  pub at : IsAt w pid.node s
  pub given : WasGiven (seats s.node) pid

-- what is true of the pid of a process of a node
pub record IsOfNode (w : World) (number : ℕ) (s : KeptNode) (pid : Pid) : Type 0 where
  pub node_is : pid.node ≡ number
  pub boot_is : pid.boot ≡ s.node.boot
  pub given : WasGivenIn w pid

-- the answer that a process of this pid was made
abbrev pub made : Pid → Reply
made pid = Job (Made pid)
