-- What an event begins, and how that is saved and published at once.
use Rattle.std.specs.Prelude.{◌≡◌, ◌≢◌, ℕ, Bool, true, false}
use Rattle.fl_jobs.specs.declared.answer.Refusal.TheVariants.{Memory}
use Rattle.fl_system.specs.declared.answer.Fault.TheVariants as faults
use Rattle.fl_system.specs.declared.event.Event.{Event}
use Rattle.fl_system.specs.declared.event.Event.TheVariants.{Save, Publish, Cancel}
use Rattle.fl_system.specs.declared.reply.Reply.{Reply}
use Rattle.fl_system.specs.declared.reply.Reply.TheVariants.{Job, Begun, Taking, Took, Published, Done, Booted, Sent, NoSuch, Refused}
use Rattle.fl_system.specs.World.{World}
use Rattle.fl_system.specs.WorldSteps.{Step, node_of}

-- the reply says that something is to be saved and published
abbrev pub begins : Reply → Bool
begins (Job reply) = false
begins (Begun name) = true
begins (Taking count) = true
begins (Took count) = false
begins (Published name) = false
begins Done = false
begins (Booted boot) = false
begins (Sent first count) = false
begins NoSuch = false
begins (Refused fault) = false

-- there was not enough memory
abbrev pub starved : Reply
starved = Refused (faults.Refused Memory)

-- What is to be saved at the node of this number is saved, and then published. Where saving wants memory it is given up; where
-- publishing does, it stays due.
pub data Finishes (w : World) (number : ℕ) : Reply → World → Type 0 where
  given_up : {reply : Reply} {between w' : World} → Step w (Save number) starved between
      → Step between (Cancel number) reply w' → Finishes w number starved w'
  not_saved : {reply : Reply} {w' : World} → reply ≢ Done → reply ≢ starved
      → Step w (Save number) reply w' → Finishes w number reply w'
  saved : {reply : Reply} {between w' : World} → Step w (Save number) Done between
      → Step between (Publish number) reply w' → Finishes w number reply w'

-- The event happens, and what it begins is saved and published.
pub data Completes (w : World) (event : Event) : Reply → World → Type 0 where
  at_once : {reply : Reply} {w' : World} → begins reply ≡ false → Step w event reply w'
      → Completes w event reply w'
  in_steps : {first reply : Reply} {between w' : World} → begins first ≡ true
      → Step w event first between → Finishes between (node_of event) reply w'
      → Completes w event reply w'
