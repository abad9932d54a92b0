-- What becomes of a world at a move, whatever it was: the laws of worlds go by these cases.
use Rattle.std.specs.Prelude.{◌≡◌, ◌⊎◌, ℕ, Bool, List}
use Rattle.std.specs.FinMap as map
use Rattle.std.specs.List.{Contains}
use Rattle.std.specs.declared.option.Option.{Option}
use Rattle.std.specs.declared.option.Option.TheVariants.{None}
use Rattle.std.specs.declared.result.Result.{Result}
use Rattle.fl_labels.specs.Found.{Within}
use Rattle.fl_labels.specs.SetBy as set
use Rattle.fl_labels.specs.SetBy.{In}
use Rattle.fl_ops.specs.declared.op.Op.{Op}
use Rattle.fl_message.specs.declared.message.Data.{Data}
use Rattle.fl_wire.specs.declared.packet.Packet.{Packet}
use Rattle.fl_gossip.specs.Taking as gossip
use Rattle.fl_jobs.specs.declared.job.Job.{Job}
use Rattle.fl_jobs.specs.declared.answer.Reply.{Reply as JobReply}
use Rattle.fl_store.specs.Kept.{Kept, HasNamesOnce}
use Rattle.fl_system.specs.declared.admission.Admission.{Admission}
use Rattle.fl_system.specs.declared.answer.Answer.{Answer}
use Rattle.fl_system.specs.declared.answer.Fault.{Fault}
use Rattle.fl_system.specs.declared.sent.Sent.{Sent}
use Rattle.fl_system.specs.declared.state.Batch.{Batch}
use Rattle.fl_system.specs.declared.state.State.TheVariants.{Stopped}
use Rattle.fl_system.specs.State.{NodeState}
use Rattle.fl_system.specs.Jobs.{Jobs, Looks, looking}
use Rattle.fl_system.specs.Receives.{Receives}
use Rattle.fl_system.specs.Arrives.{Arrives}
use Rattle.fl_system.specs.Saves.{Saves}
use Rattle.fl_system.specs.Publishes.{Publishes, Cancels}
use Rattle.fl_system.specs.Openings.{OpensAgain, Restarts}
use Rattle.fl_system.specs.World.{World, KeptNode, went}
use Rattle.fl_system.specs.WorldSteps.{IsAt}
use Rattle.fl_system.specs.Union.{Union}
use Rattle.fl_system.specs.Deliveries.{has_told}
use Rattle.fl_system.specs.Joins.{joined}

-- the operations of a packet that was sent
abbrev pub carried : Sent → List Op
carried sent = gossip.ops_of sent.packet

-- One call at the node s of the world, which leaves the node and what is kept of it so. What it
-- receives is what a packet that was sent carries.
pub data Calls (w : World) (s : KeptNode) : NodeState → Kept → Type 0 where
  jobs : {desk upto : ℕ} {job : Job} {result : Result Answer Fault} {n : NodeState}
      → Jobs s.node desk upto job result n → Calls w s n s.kept
  looks : {desk upto v : ℕ} (seen : ℕ) (look : Looks s.node desk upto v)
      → (seen ≡ look.seen) ⊎ (seen ≡ v) → Calls w s (looking s.node desk seen) s.kept
  receives : {result : Result ℕ Fault} (sent : Sent) {n : NodeState} → Contains w.packets sent
      → Receives s.node (set.of_list (carried sent)) result n → Calls w s n s.kept
  arrives : {d : Data} {result : Result JobReply Fault} {n : NodeState} → Arrives s.node d result n
      → Calls w s n s.kept
  saves : {result : Result (Unit {0}) Fault} {n : NodeState} {k : Kept}
      → Saves s.node s.kept result n k
      → Calls w s n k
  publishes : {result : Result ℕ Fault} {n : NodeState} → Publishes s.node result n
      → Calls w s n s.kept
  cancels : {result : Result (Unit {0}) Fault} {n : NodeState} → Cancels s.node result n
      → Calls w s n s.kept
  restarts : {keeps : Bool} {result : Result ℕ Fault} {n : NodeState} {k : Kept}
      → Restarts s.node s.kept keeps result n k → Calls w s n k
  -- over what another keeper has
  reopens : {doubt : Option Batch} {other : Kept} {result : Result ℕ Fault} {n : NodeState}
      {k : Kept}
      → s.node.state ≡ Stopped doubt → OpensAgain s.node doubt other result n k → Calls w s n k

-- packets of messages alone
abbrev pub BringNoOps : List Sent → Type 0
BringNoOps sent = (x : Sent) → Contains sent x → (op : Op) → ¬ Contains (carried x) op

-- each operation of the number of a node is in what that node has saved
abbrev pub IsOwned : World → Op → Type 0
IsOwned w op = (s : KeptNode) → IsAt w op.name.node s → In s.node.saved op

-- what lets a node of this number join
pub record MayJoin (w : World) (number : ℕ) (k : Kept) : Type 0 where
  pub free : map.get w.nodes number ≡ None
  pub number_is : k.number ≡ number
  pub names : HasNamesOnce k.saved
  pub no_clash : (a b : Op) → In k.saved a → Union w b → a.name ≡ b.name → a ≡ b
  pub owned : (op : Op) → Union (joined w number k) op → IsOwned (joined w number k) op

-- the world is as before, a node told what it had saved, there was a call at a node, or a node
-- joined
pub data Goes (w : World) : World → Type 0 where
  stays : Goes w w
  tells : (number : ℕ) {s : KeptNode} (told : List Packet) → IsAt w number s
      → ((p : Packet) → Contains told p → Within (Contains (gossip.ops_of p)) (In s.node.saved))
      → Goes w (has_told w number told)
  calls : (number : ℕ) {s : KeptNode} {n : NodeState} {k : Kept} (sent : List Sent)
      (admitted : List Admission)
      → IsAt w number s → Calls w s n k → BringNoOps sent → Goes w (went w number n k sent admitted)
  joins : (number : ℕ) {k : Kept} → MayJoin w number k → Goes w (joined w number k)
