-- Runs of worlds.
use Rattle.std.specs.Prelude.{◌≡◌, ℕ, List, [], ◌∷◌}
use Rattle.fl_store.specs.Kept.{Kept}
use Rattle.fl_system.specs.declared.event.Event.{Event}
use Rattle.fl_system.specs.declared.reply.Reply.{Reply}
use Rattle.fl_system.specs.World.{World, empty_world}
use Rattle.fl_system.specs.WorldSteps.{Step}
use Rattle.fl_system.specs.Joins.{Joins, Reopening}

-- an event; a node of this number that joins, over what is kept; or one that is opened over another keeper
pub data Move : Type 0 where
  Happens : Event → Move
  Comes : ℕ → Kept → Move
  Returns : ℕ → Kept → Move

-- in the world w the move may be answered so, and leaves w'
abbrev pub Moves : World → Move → Reply → World → Type 0
Moves w (Happens event) reply w' = Step w event reply w'
Moves w (Comes number k) reply w' = Joins w number k reply w'
Moves w (Returns number k) reply w' = Reopening w number k reply w'

-- one moment of a run: what happened, what was answered, and the world after it
pub record Moment : Type 0 where
  pub move : Move
  pub reply : Reply
  pub after : World

-- the moments may follow one another, from the world w on
abbrev pub IsRun : World → List Moment → Type 0
IsRun w [] = Unit {0}
IsRun w (m ∷ ms) = Moves w m.move m.reply m.after × IsRun m.after ms

-- the world after the last of them
abbrev pub end : World → List Moment → World
end w [] = w
end w (m ∷ ms) = end m.after ms

-- a run leads to the world from one without a node
pub record IsReached (w : World) : Type 0 where
  pub desks : ℕ
  pub moments : List Moment
  pub is_run : IsRun (empty_world desks) moments
  pub leads : end (empty_world desks) moments ≡ w

-- in the world w the events may be answered so, one after another, and leave w'
abbrev pub Run : World → List Event → List Reply → World → Type 0
Run w [] [] w' = w' ≡ w
Run w (event ∷ events) (reply ∷ replies) w' =
    (between : World) × Step w event reply between × Run between events replies w'
Run w [] (reply ∷ replies) w' = ⊥
Run w (event ∷ events) [] w' = ⊥
