-- What is written for a script.
use Rattle.std.specs.Prelude.{◌≡◌, ◌++◌, ℕ, List, Option}
use Rattle.std.specs.Str.Lines.{lines}
use Rattle.std.specs.Io.KnownBytes.{Appends}
use Rattle.fl_stream.specs.Turns.{Turns, LineOutput, Run, texts, worst}

-- the text is what is written for these lines from this state on, with this status, and leaves that state
pub record Writes {M : Type 0} (turns : Turns M) (start : M) (lines : List (List ℕ)) (text : List ℕ)
    (status : ℕ) (end : M) : Type 0 where
  pub outputs : List LineOutput
  pub run : Run turns 1 start lines outputs end
  pub text_is : text ≡ texts outputs
  pub status_is : status ≡ worst outputs

-- known bytes grow by what is written for the script, cut into lines, with this status, which leaves that state
pub record WritesOutput {M : Type 0} (turns : Turns M) (start : M) (old new : Option (List ℕ))
    (script : List ℕ) (status : ℕ) (end : M) : Type 0 where
  pub text : List ℕ
  pub output : Writes turns start (lines script) text status end
  pub written : Appends old new text

-- known bytes grow by a front of what is written for the first lines of the script, which leave that state
pub record WritesFirst {M : Type 0} (turns : Turns M) (start : M) (old new : Option (List ℕ))
    (script : List ℕ) (end : M) : Type 0 where
  pub first : List (List ℕ)
  pub later : List (List ℕ)
  pub split : lines script ≡ first ++ later
  pub front : List ℕ
  pub rest : List ℕ
  pub status : ℕ
  pub output : Writes turns start first (front ++ rest) status end
  pub written : Appends old new front
