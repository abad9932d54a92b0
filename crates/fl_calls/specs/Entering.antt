-- How the first line that names a node opens it.
use Rattle.std.specs.Prelude.{◌≡◌, ℕ}
use Rattle.std.specs.FinMap as map
use Rattle.std.specs.declared.option.Option.TheVariants.{None}
use Rattle.std.specs.declared.result.Result.{Result}
use Rattle.std.specs.declared.result.Result.TheVariants.{Ok, Err}
use Rattle.fl_store.specs.Kept.{Kept}
use Rattle.fl_system.specs.declared.answer.Fault.{Fault}
use Rattle.fl_system.specs.declared.reply.Reply.TheVariants.{Booted, Refused}
use Rattle.fl_system.specs.Joins.{Joins}
use Rattle.fl_system.specs.World.{World, KeptNode}
use Rattle.fl_system.specs.WorldSteps.{IsAt}
use Rattle.fl_calls.specs.Answer.{Answer, replied}

-- what the keepers that are made for nodes may hold, and why a node that is not there may not be opened in a world
pub record Openings : Type 1 where
  pub finds : ℕ → Kept → Type 0
  pub refuses : World → ℕ → Fault → Type 0

-- The node of this number is there, joins the world over what its keeper held when it was made, or is not opened.
pub data Enters (openings : Openings) (w : World) (number : ℕ)
    : Result (Unit {0}) Fault → World → Type 0 where
  is_there : {s : KeptNode} → IsAt w number s → Enters openings w number (Ok tt) w
  joins : {k : Kept} {boot : ℕ} {w' : World} → map.get w.nodes number ≡ None
      → openings.finds number k → Joins w number k (Booted boot) w'
      → Enters openings w number (Ok tt) w'
  is_refused : {fault : Fault} → map.get w.nodes number ≡ None → openings.refuses w number fault
      → Enters openings w number (Err fault) w

-- The node is opened where it is not there, and then this is done and answered; where it is not opened, the line is answered
-- why.
pub data OnceOpen (openings : Openings) (w : World) (number : ℕ)
    (does : World → Answer → World → Type 0) : Answer → World → Type 0 where
  shut : {fault : Fault} {w' : World} → Enters openings w number (Err fault) w'
      → OnceOpen openings w number does (replied (Refused fault)) w'
  opened : {answer : Answer} {between w' : World} → Enters openings w number (Ok tt) between
      → does between answer w' → OnceOpen openings w number does answer w'
