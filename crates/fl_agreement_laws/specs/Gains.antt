-- What a node's own publications add to its list in a run, and how operations come on their way.
use Rattle.std.specs.Prelude.{◌≡◌, ◌⊎◌, ◌++◌, ◌==◌, ℕ, cond, List, [], ◌∷◌}
use Rattle.std.specs.FinMap as map
use Rattle.std.specs.List.{Contains}
use Rattle.std.specs.declared.option.Option.{Option}
use Rattle.std.specs.declared.option.Option.TheVariants.{None, Some}
use Rattle.fl_labels.specs.declared.pid.Pid.{Pid}
use Rattle.fl_ops.specs.declared.op.Op.{Op}
use Rattle.fl_gossip.specs.Taking.{ops_of as ops_in}
use Rattle.fl_jobs.specs.declared.job.Order as orders
use Rattle.fl_jobs.specs.declared.job.Act.TheVariants.{Order}
use Rattle.fl_jobs.specs.declared.job.Job.TheVariants.{By}
use Rattle.fl_bench.specs.Process.{body_of}
use Rattle.fl_system.specs.declared.event.Event.TheVariants.{Job, Publish, Deliver}
use Rattle.fl_system.specs.declared.reply.Reply.{Reply}
use Rattle.fl_system.specs.declared.reply.Reply.TheVariants.{Begun, Taking, Published, Took}
use Rattle.fl_system.specs.declared.sent.Sent.{Sent}
use Rattle.fl_system.specs.declared.state.Pending.TheVariants.{Nothing, Unsaved, Due}
use Rattle.fl_system.specs.declared.state.State.{State}
use Rattle.fl_system.specs.declared.state.State.TheVariants.{Running, Stopped}
use Rattle.fl_system.specs.Numbered.{item_at}
use Rattle.fl_system.specs.Runs.{Move, Happens, Moment}
use Rattle.fl_system.specs.State.{ops_of}
use Rattle.fl_system.specs.World.{World, KeptNode}

-- saved at a node of this state, and due
abbrev pub due_in : State → List Op
due_in (Running Nothing) = []
due_in (Running (Unsaved batch)) = []
due_in (Running (Due batch)) = ops_of batch
due_in (Stopped doubt) = []

abbrev pub due_at : Option KeptNode → List Op
due_at None = []
due_at (Some s) = due_in s.node.state

-- the operations, where the answer is that they are published
abbrev pub if_published : Reply → List Op → List Op
if_published (Published name) ops = ops
if_published (Took count) ops = ops
if_published other ops = []

-- what a publication at the node of this number adds to its list
abbrev pub gain : ℕ → World → Move → Reply → List Op
gain number w (Happens (Publish k)) reply =
    cond (k == number) (if_published reply (due_at (map.get w.nodes number))) []
gain number w other reply = []

-- what all of them add, from the world w on, in order
abbrev pub gains : ℕ → World → List Moment → List Op
gains number w [] = []
gains number w (m ∷ ms) = gain number w m.move m.reply ++ gains number m.after ms

-- In the world w the move puts the operation on its way at the node of this number: as an order of
-- a process, or out of a packet that comes to the node.
pub data IsBegun (number : ℕ) (op : Op) (w : World) : Move → Reply → Type 0 where
  ordered : {desk upto : ℕ} {pid : Pid} {order : orders.Order} → op.body ≡ body_of order
      → IsBegun number op w (Happens (Job number desk upto (By pid (Order order)))) (Begun op.name)
  received : {packet count : ℕ} {sent : Sent} → item_at w.packets packet ≡ Some sent
      → Contains (ops_in sent.packet) op
      → IsBegun number op w (Happens (Deliver packet number)) (Taking count)

-- a moment of the run does so
abbrev pub IsBegunIn : ℕ → Op → World → List Moment → Type 0
IsBegunIn number op w [] = ⊥
IsBegunIn number op w (m ∷ ms) = IsBegun number op w m.move m.reply ⊎ IsBegunIn number op m.after ms
