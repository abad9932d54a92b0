-- When an event of a world has one outcome.
use Rattle.std.specs.Prelude.{◌≡◌, ◌≢◌, ◌⊎◌, ◌<◌, ◌≤◌, ℕ, List, [], ◌∷◌}
use Rattle.std.specs.declared.option.Option.{Option}
use Rattle.std.specs.declared.option.Option.TheVariants.{None}
use Rattle.fl_jobs.specs.declared.answer.Refusal.TheVariants.{Memory}
use Rattle.fl_store.specs.Kept.{Kept, raised}
use Rattle.fl_system.specs.declared.answer.Fault.TheVariants as faults
use Rattle.fl_system.specs.declared.event.Event.{Event}
use Rattle.fl_system.specs.declared.event.Event.TheVariants.{Job, Restart}
use Rattle.fl_system.specs.declared.reply.Reply.{Reply}
use Rattle.fl_system.specs.declared.reply.Reply.TheVariants.{Refused}
use Rattle.fl_system.specs.Numbered.{item_at}
use Rattle.fl_system.specs.declared.state.Batch.{Batch}
use Rattle.fl_system.specs.declared.state.State.TheVariants.{Stopped}
use Rattle.fl_system.specs.State.{NodeState, kept_of}
use Rattle.fl_system.specs.Openings.{IsOwn}
use Rattle.fl_system.specs.Waiting.{IsRunning}
use Rattle.fl_system.specs.World.{World, KeptNode, went}
use Rattle.fl_system.specs.WorldSteps.{IsAt}
use Rattle.fl_system_laws.specs.Owned.{IsKeptOwn}

-- nothing was refused for want of memory, and no keeper failed
pub record IsAmple (reply : Reply) : Type 0 where
  pub memory : reply ≢ Refused (faults.Refused Memory)
  pub keeper : reply ≢ Refused faults.KeeperFailed

-- no restart was refused as another node's: that may have raised the boot, or not
abbrev pub IsSettled : Event → Reply → Type 0
IsSettled (Restart number keeps) reply = reply ≢ Refused faults.WrongNode
IsSettled other reply = Unit {0}

-- nor any of these
abbrev pub AreSettled : List Event → List Reply → Type 0
AreSettled (event ∷ events) (reply ∷ replies) = IsSettled event reply × AreSettled events replies
AreSettled events replies = Unit {0}

-- what is kept of a node is its own: what it saved while it runs, and what it may open again once it
-- is stopped
pub record IsOwnKept (n : NodeState) (k : Kept) : Type 0 where
  pub running : IsKeptOwn n k
  pub stopped : (doubt : Option Batch) → n.state ≡ Stopped doubt → IsOwn (kept_of n) doubt k

-- so it is of each node of the world
pub record HaveOwn (w : World) : Type 0 where
  pub each : (number : ℕ) (s : KeptNode) → IsAt w number s → IsOwnKept s.node s.kept

-- what a refused opening leaves: what was kept, or that with its boot raised
abbrev pub IsLeft : Kept → Kept → Type 0
IsLeft kept left = (left ≡ kept) ⊎ (left ≡ raised kept)

-- two worlds that the world w may be after an opening of a node was refused: they differ at most in
-- whether that raised the boot
pub record AreSameButBoot (w : World) (number : ℕ) (a b : World) : Type 0 where
  pub node : NodeState
  pub kept : Kept
  pub one : (left : Kept) × IsLeft kept left × (a ≡ went w number node left [] [])
  pub other : (left : Kept) × IsLeft kept left × (b ≡ went w number node left [] [])

-- a job is for a desk that is there, or for a node that runs
abbrev pub HasDesk : World → Event → Type 0
HasDesk w (Job number desk upto job) =
    (s : KeptNode) → IsAt w number s → IsRunning s.node.state ⊎ (item_at s.node.views desk ≢ None)
HasDesk w other = Unit {0}

-- a job is for one of so many desks
abbrev pub IsAtDesk : ℕ → Event → Type 0
IsAtDesk desks (Job number desk upto job) = (0 < desk) × (desk ≤ desks)
IsAtDesk desks other = Unit {0}
