-- Lines that are answered one after another.
use Rattle.std.specs.Prelude.{◌≡◌, ◌+◌, [], ◌∷◌, ℕ, List}
use Rattle.fl_stream.specs.Turns.{LineOutput}
use Rattle.fl_calls.specs.Entering.{Openings}
use Rattle.fl_turns.specs.Answer.{Answer, status_of}
use Rattle.fl_turns.specs.AnswerText.{text_of}
use Rattle.fl_turns.specs.Session.{Session}
use Rattle.fl_turns.specs.Turn.{Turn}

-- the lines may be answered so, one after another, and leave the session so
abbrev pub Run : Openings → Session → List (List ℕ) → List Answer → Session → Type 0
Run openings old [] [] new = new ≡ old
Run openings old (line ∷ lines) (answer ∷ answers) new =
    (mid : Session) × Turn openings old line answer mid × Run openings mid lines answers new
Run openings old [] (answer ∷ answers) new = ⊥
Run openings old (line ∷ lines) [] new = ⊥

-- what is written of an answer to the line of this number
abbrev pub output_of : ℕ → Answer → LineOutput
output_of number answer = record { text = text_of number answer; status = status_of answer }

-- what is written of the answers, the first of which is to the line of this number
abbrev pub outputs_from : ℕ → List Answer → List LineOutput
outputs_from number [] = []
outputs_from number (answer ∷ answers) =
    output_of number answer ∷ outputs_from (number + 1) answers
