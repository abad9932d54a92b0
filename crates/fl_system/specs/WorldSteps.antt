-- What an event does to a world.
use Rattle.std.specs.Prelude.{◌≡◌, ℕ, Bool}
use Rattle.std.specs.FinMap as map
use Rattle.std.specs.declared.option.Option.TheVariants.{None, Some}
use Rattle.fl_jobs.specs.declared.job.Job.{Job as AnyJob}
use Rattle.fl_jobs.specs.declared.job.Job.TheVariants.{Arrive}
use Rattle.fl_system.specs.declared.event.Event.{Event}
use Rattle.fl_system.specs.declared.event.Event.TheVariants.{Job, Save, Publish, Cancel, Restart, Tell, Deliver}
use Rattle.fl_system.specs.declared.reply.Reply.{Reply}
use Rattle.fl_system.specs.declared.reply.Reply.TheVariants.{NoSuch}
use Rattle.fl_system.specs.declared.sent.Sent.{Sent}
use Rattle.fl_system.specs.Numbered.{item_at}
use Rattle.fl_system.specs.World.{World, KeptNode}
use Rattle.fl_system.specs.WorldJobs.{JobAt}
use Rattle.fl_system.specs.WorldCalls.{SaveAt, PublishAt, CancelAt, RestartAt}
use Rattle.fl_system.specs.Deliveries.{TellAt, DeliverAt}

-- the number of the node to which it happens
abbrev pub node_of : Event → ℕ
node_of (Job number desk upto job) = number
node_of (Save number) = number
node_of (Publish number) = number
node_of (Cancel number) = number
node_of (Restart number keeps) = number
node_of (Tell number) = number
node_of (Deliver packet number) = number

-- the node of this number in the world
abbrev pub IsAt : World → ℕ → KeptNode → Type 0
IsAt w number s = map.get w.nodes number ≡ Some s

-- arrivals are made of packets alone
abbrev pub IsArrival : AnyJob → Type 0
IsArrival (Arrive d) = Unit {0}
IsArrival other = ⊥

-- In the world w the event may be answered so, and leaves w'.
pub data Step (w : World) : Event → Reply → World → Type 0 where
  -- what is named is not there
  no_node : {event : Event} → map.get w.nodes (node_of event) ≡ None → Step w event NoSuch w
  no_desk : {number desk upto : ℕ} {job : AnyJob} {s : KeptNode} → IsAt w number s
      → item_at s.node.views desk ≡ None → Step w (Job number desk upto job) NoSuch w
  no_such_job : {number desk upto : ℕ} {job : AnyJob} → IsArrival job
      → Step w (Job number desk upto job) NoSuch w
  no_packet : {packet number : ℕ} → item_at w.packets packet ≡ None
      → Step w (Deliver packet number) NoSuch w
  -- what is named is there
  job : {number desk upto : ℕ} {job : AnyJob} {s : KeptNode} {reply : Reply} {w' : World}
      → IsAt w number s → ¬ IsArrival job → JobAt w number s desk upto job reply w'
      → Step w (Job number desk upto job) reply w'
  save : {number : ℕ} {s : KeptNode} {reply : Reply} {w' : World} → IsAt w number s
      → SaveAt w number s reply w' → Step w (Save number) reply w'
  publish : {number : ℕ} {s : KeptNode} {reply : Reply} {w' : World} → IsAt w number s
      → PublishAt w number s reply w' → Step w (Publish number) reply w'
  cancel : {number : ℕ} {s : KeptNode} {reply : Reply} {w' : World} → IsAt w number s
      → CancelAt w number s reply w' → Step w (Cancel number) reply w'
  restart : {number : ℕ} {keeps : Bool} {s : KeptNode} {reply : Reply} {w' : World}
      → IsAt w number s → RestartAt w number s keeps reply w' → Step w (Restart number keeps) reply w'
  tell : {number : ℕ} {s : KeptNode} {reply : Reply} {w' : World} → IsAt w number s
      → TellAt w number s reply w' → Step w (Tell number) reply w'
  deliver : {packet number : ℕ} {s : KeptNode} {sent : Sent} {reply : Reply} {w' : World}
      → item_at w.packets packet ≡ Some sent → IsAt w number s
      → DeliverAt w number s sent reply w' → Step w (Deliver packet number) reply w'
