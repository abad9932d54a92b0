-- Lines that may be answered so, and what is written of the answers.
use Rattle.std.specs.Prelude.{◌≡◌, ℕ, List}
use Rattle.fl_stream.specs.Turns.{LineOutput}
use Rattle.fl_calls.specs.Entering.{Openings}
use Rattle.fl_turns.specs.Answer.{Answer}
use Rattle.fl_turns.specs.Run.{Run, outputs_from}
use Rattle.fl_turns.specs.Session.{Session}

-- the lines, the first of them being the number-th, may be answered so that this is written, and leave the session so
pub record IsAnswered (openings : Openings) (number : ℕ) (old : Session)
    (lines : List (List ℕ)) (outputs : List LineOutput) (new : Session) : Type 0 where
  pub answers : List Answer
  pub run : Run openings old lines answers new
  pub outputs_are : outputs ≡ outputs_from number answers
