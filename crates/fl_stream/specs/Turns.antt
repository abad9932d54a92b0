-- What answers lines, one after another.
use Rattle.std.specs.Prelude.{◌≡◌, ◌+◌, [], ◌∷◌, ℕ, List, Option, max}
use Rattle.std.specs.List.{flat_map}
use Rattle.fl_sink.specs.Sink.{Passes, Cuts}

-- what a line is answered: its text, and its status, 0 where there is nothing to be told of it
pub record LineOutput : Type 0 where
  pub text : List ℕ
  pub status : ℕ

-- the line of this number is answered so at the first state, and leaves the second
abbrev pub Turns : Type 0 → Type 1
Turns M = ℕ → M → List ℕ → LineOutput → M → Type 0

-- no text, and nothing to be told of it
abbrev pub silence : LineOutput
silence = record { text = []; status = 0 }

-- where it is over, any line is answered in silence, and leaves the state as it is
abbrev pub StaysSilent : {M : Type 0} → Turns M → (M → Type 0) → Type 0
StaysSilent {M} turns over = (number : ℕ) (state : M) (line : List ℕ) → over state → turns number state line silence state

-- the lines are answered one after another, the first of them being the number-th
abbrev pub Run : {M : Type 0} → Turns M → ℕ → M → List (List ℕ) → List LineOutput → M → Type 0
Run turns number old [] [] new = new ≡ old
Run {M} turns number old (line ∷ lines) (output ∷ outputs) new =
    (mid : M) × turns number old line output mid × Run turns (number + 1) mid lines outputs new
Run turns number old [] (output ∷ outputs) new = ⊥
Run turns number old (line ∷ lines) [] new = ⊥

-- the texts, one after another
abbrev pub texts : List LineOutput → List ℕ
texts outputs = flat_map (λ o. o.text) outputs

-- the greatest status, and 0 of no line
abbrev pub worst : List LineOutput → ℕ
worst [] = 0
worst (output ∷ outputs) = max output.status (worst outputs)

-- the number-th line was answered, and its text passed on
pub record AnswerPasses {M : Type 0} (turns : Turns M) (number : ℕ) (old : M) (line : List ℕ) (status : ℕ)
    (new : M) (before after : Option (List ℕ)) (pending rest : List ℕ) : Type 0 where
  pub text : List ℕ
  pub turn : turns number old line (record { text = text; status = status }) new
  pub passed : Passes before after pending text rest

-- the number-th line was answered, and a front of its text written
pub record AnswerCuts {M : Type 0} (turns : Turns M) (number : ℕ) (old : M) (line : List ℕ) (new : M)
    (before after : Option (List ℕ)) (pending : List ℕ) : Type 0 where
  pub output : LineOutput
  pub turn : turns number old line output new
  pub cut : Cuts before after pending output.text
