-- What is said before more is heard.
use Rattle.std.specs.Prelude.{◌≡◌, ◌+◌, ◌<◌, ◌⊎◌, ◌++◌, ◌∷◌, ◌==◌, [], ℕ, List, Option, None, Some, false, length, All}
use Rattle.std.specs.Str.Lines.{lines}
use Rattle.std.specs.Io.KnownBytes.{Appends, Consumes, append_known}
use Rattle.fl_stream.specs.Turns.{Turns}
use Rattle.fl_stream.specs.Output.{Writes}

-- no byte is a line feed
abbrev pub HasNoFeed : List ℕ → Type 0
HasNoFeed text = All (λ b. (b == 10) ≡ false) text

-- every line has ended
abbrev pub IsEnded : List ℕ → Type 0
IsEnded text = (text ≡ []) ⊎ ((front : List ℕ) × (text ≡ front ++ 10 ∷ []))

-- exactly the answers, from this start on, to the lines that ended in what was heard were said, and leave that state
pub record Answered {M : Type 0} (turns : Turns M) (start : M) (heard : List ℕ)
    (before said : Option (List ℕ)) (end : M) : Type 0 where
  pub done : List ℕ
  pub held : List ℕ
  pub cut : heard ≡ done ++ held
  pub ended : IsEnded done
  pub no_feed : HasNoFeed held
  pub text : List ℕ
  pub status : ℕ
  pub output : Writes turns start (lines done) text status end
  pub written : Appends before said text

-- the lines that ended in what was read are answered, and leave that state; bytes beyond were read only where the
-- script has more than so many
pub record Served {M : Type 0} (most : ℕ) (turns : Turns M) (start : M) (remaining left before after : Option (List ℕ))
    (end : M) : Type 0 where
  pub taken : List ℕ
  pub beyond : List ℕ
  pub consumed : Consumes remaining left (taken ++ beyond)
  pub bounded : (beyond ≡ []) ⊎ (most < length (taken ++ beyond))
  pub answered : Answered turns start taken before after end

-- the text ends in a line that has not ended: in some bytes, of which none is a line feed
pub record EndsMidLine (text : List ℕ) : Type 0 where
  pub front : List ℕ
  pub part : List ℕ
  pub cut : text ≡ front ++ part
  pub some : 0 < length part
  pub no_feed : HasNoFeed part

-- bytes were heard that end in a line that has not ended
pub record HearsMidLine (remaining left heard grown : Option (List ℕ)) : Type 0 where
  pub bytes : List ℕ
  pub consumed : Consumes remaining left bytes
  pub grown_by : grown ≡ append_known heard bytes
  pub ends : EndsMidLine bytes

-- bytes were heard that end in a line that has not ended, and has more than so many
pub record HearsLongLine (most : ℕ) (remaining left heard grown : Option (List ℕ)) : Type 0 where
  pub bytes : List ℕ
  pub consumed : Consumes remaining left bytes
  pub grown_by : grown ≡ append_known heard bytes
  pub front : List ℕ
  pub part : List ℕ
  pub cut : bytes ≡ front ++ part
  pub many : most < length part
  pub no_feed : HasNoFeed part

-- there is something that there may be no room for: nothing was heard, or a line has not ended
abbrev pub MayLackRoom : Option (List ℕ) → Option (List ℕ) → Option (List ℕ) → Option (List ℕ) → Type 0
MayLackRoom remaining left heard grown =
    ((left ≡ remaining) × (grown ≡ heard)) ⊎ HearsMidLine remaining left heard grown

-- known bytes grew by more than so many
pub record Outgrows (most : ℕ) (old new : Option (List ℕ)) : Type 0 where
  pub bytes : List ℕ
  pub grown : new ≡ append_known old bytes
  pub many : most < length bytes

-- a known number, and so many more
abbrev pub plus_known : Option ℕ → ℕ → Option ℕ
plus_known None more = None
plus_known (Some n) more = Some (n + more)

-- a known number grew by more than so many
pub record CountsPast (most : ℕ) (old new : Option ℕ) : Type 0 where
  pub more : ℕ
  pub counted : new ≡ plus_known old more
  pub many : most < more
