-- What a line becomes where each alias in it is replaced by the text of what it stands for.
use Rattle.std.specs.Prelude.{◌≡◌, ◌≢◌, ℕ, false, Some, List, [], ◌∷◌, ◌++◌}
use Rattle.std.specs.List.{All}
use Rattle.fl_aliases.specs.Alias.{is_letter, IsAlias, alias_text}
use Rattle.fl_aliases.specs.Table.{Table, target_of}
use Rattle.fl_aliases.specs.TargetText.{target_text}
use Rattle.fl_aliases.specs.declared.target.Target.{Target}

-- the first byte, if there is one, is no letter
abbrev pub NoLetterFirst : List ℕ → Type 0
NoLetterFirst [] = Unit {0}
NoLetterFirst (b ∷ bytes) = is_letter b ≡ false

-- The line becomes these bytes. A byte that is no `$` stays; behind a `$` stands an alias that is set, which is all the letters there.
pub data Expands (table : Table) : List ℕ → List ℕ → Type 0 where
  ends : Expands table [] []
  stays : {b : ℕ} {line out : List ℕ} → b ≢ 36 → Expands table line out → Expands table (b ∷ line) (b ∷ out)
  becomes : {letters rest out : List ℕ} {target : Target} → IsAlias letters → NoLetterFirst rest → target_of table letters ≡ Some target → Expands table rest out → Expands table (alias_text letters ++ rest) (target_text target ++ out)

-- no `$` stands in these bytes
abbrev pub NoDollar : List ℕ → Type 0
NoDollar bytes = All (λ b. b ≢ 36) bytes

-- behind the bytes that were there stands what the line becomes
pub record ExpandsBehind (table : Table) (line before after : List ℕ) : Type 0 where
  pub out : List ℕ
  pub expands : Expands table line out
  pub written : after ≡ before ++ out
