-- What is written by way of a buffer: bytes wait in it, and are written in their order.
use Rattle.std.specs.Prelude.{◌≡◌, ◌++◌, List, [], ℕ, Option}
use Rattle.std.specs.declared.result.Result.{Result}
use Rattle.std.specs.declared.result.Result.TheVariants.{Ok, Err}
use Rattle.std.specs.Io.KnownBytes.{Appends}

-- known bytes grow by a front of what was pending and the text after it, and the rest is pending
pub record Passes (before after : Option (List ℕ)) (pending text rest : List ℕ) : Type 0 where
  pub front : List ℕ
  pub split : pending ++ text ≡ front ++ rest
  pub written : Appends before after front

-- known bytes grow by a front of what was pending and the text after it, and the rest is lost
pub record Cuts (before after : Option (List ℕ)) (pending text : List ℕ) : Type 0 where
  pub front : List ℕ
  pub rest : List ℕ
  pub split : pending ++ text ≡ front ++ rest
  pub written : Appends before after front

-- the text passes, or is cut where there is an error
abbrev pub PutsAs : {T E : Type 0} → Option (List ℕ) → Option (List ℕ) → List ℕ → List ℕ → List ℕ → Result T E → Type 0
PutsAs before after pending text rest (Ok x) = Passes before after pending text rest
PutsAs before after pending text rest (Err e) = Cuts before after pending text

pub record Puts {T E : Type 0} (before after : Option (List ℕ)) (pending text rest : List ℕ) (result : Result T E) : Type 0 where
  pub is : PutsAs before after pending text rest result

-- all of the text is written, or a front of it where there is an error
abbrev pub WritesAs : {T E : Type 0} → Option (List ℕ) → Option (List ℕ) → List ℕ → Result T E → Type 0
WritesAs before after text (Ok x) = Appends before after text
WritesAs before after text (Err e) = Cuts before after [] text

pub record Writes {T E : Type 0} (before after : Option (List ℕ)) (text : List ℕ) (result : Result T E) : Type 0 where
  pub is : WritesAs before after text result
