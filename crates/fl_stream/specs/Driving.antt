-- A script is heard, and each line is answered once it was handed out.
use Rattle.std.specs.Prelude.{◌≡◌, ◌+◌, ◌++◌, ◌≤◌, ◌⊎◌, [], ℕ, List, Option, false, length, true}
use Rattle.std.specs.Str.Lines.{lines}
use Rattle.std.specs.Io.KnownBytes.{Consumes, IsAtEnd}
use Rattle.fl_sink.specs.Sink.{Cuts, Passes}
use Rattle.fl_stream.specs.declared.tally.Tally.{Tally}
use Rattle.fl_stream.specs.Turns.{Turns, LineOutput, Run, texts, worst}
use Rattle.fl_stream.specs.Served.{IsEnded}
use Rattle.fl_stream.specs.Intake.{IntakeState, waiting, Hears}

-- more may be heard: these lines have ended in the bytes, and what is behind them waits
pub record GoesOn (bytes : List ℕ) (intake : IntakeState) (seen : List (List ℕ)) : Type 0 where
  pub goes_on : intake.has_ended ≡ false
  pub done : List ℕ
  pub cut : bytes ≡ done ++ waiting intake
  pub ended : IsEnded done
  pub split : (later : List ℕ) → lines (done ++ later) ≡ seen ++ lines later

-- there is no more, and these are the lines of the bytes
pub record HasEnded (left : Option (List ℕ)) (bytes : List ℕ) (intake : IntakeState)
    (seen : List (List ℕ)) : Type 0 where
  pub has_ended : intake.has_ended ≡ true
  pub all : IsAtEnd left
  pub whole : lines bytes ≡ seen

-- these lines were handed out of what was heard
pub record Handed (most : ℕ) (remaining left heard grown : Option (List ℕ))
    (counted recounted : Option ℕ) (intake : IntakeState) (seen : List (List ℕ)) : Type 0 where
  pub bytes : List ℕ
  pub hears : Hears remaining left heard grown counted recounted most intake.room bytes
  pub place : GoesOn bytes intake seen ⊎ HasEnded left bytes intake seen

-- these are the lines of all that there was to hear, and there was room for it
pub record AllHanded (most : ℕ) (remaining left : Option (List ℕ)) (seen : List (List ℕ))
    : Type 0 where
  pub bytes : List ℕ
  pub consumed : Consumes remaining left bytes
  pub all : IsAtEnd left
  pub whole : lines bytes ≡ seen
  pub few : length bytes ≤ most

-- these lines were answered from this start on, and their texts passed on
pub record LinesPass {M : Type 0} (turns : Turns M) (start now : M) (tally : Tally)
    (before after : Option (List ℕ)) (seen : List (List ℕ)) : Type 0 where
  pub outputs : List LineOutput
  pub run : Run turns 1 start seen outputs now
  pub number_is : tally.number ≡ 1 + length seen
  pub status_is : tally.status ≡ worst outputs
  pub passed : Passes before after [] (texts outputs) tally.sink

-- these lines were answered from this start on, and a front of their texts was written
pub record LinesCut {M : Type 0} (turns : Turns M) (start end : M)
    (before after : Option (List ℕ)) (seen : List (List ℕ)) : Type 0 where
  pub outputs : List LineOutput
  pub run : Run turns 1 start seen outputs end
  pub cut : Cuts before after [] (texts outputs)

-- exactly the lines that were handed out were answered
pub record Driven {M : Type 0} (turns : Turns M) (start now : M) (most : ℕ)
    (remaining left heard grown : Option (List ℕ)) (counted recounted : Option ℕ)
    (before after : Option (List ℕ)) (intake : IntakeState) (tally : Tally) : Type 0 where
  pub seen : List (List ℕ)
  pub handed : Handed most remaining left heard grown counted recounted intake seen
  pub passed : LinesPass turns start now tally before after seen
