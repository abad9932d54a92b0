-- What replaced words spell.
use Rattle.std.proofs.Common.{◌≡◌, ◌≢◌, ◌<◌, ◌==◌, ◌⊎◌, inl, inr, ℕ, Bool, true, false, List, [], ◌∷◌, length, subst, refl, arith}
use Rattle.std.specs.declared.result.Result.{Result}
use Rattle.std.specs.declared.result.Result.TheVariants.{Ok, Err}
use Rattle.std.specs.List.{All, AllZip}
use Rattle.std.proofs.lemmas.Bool.{eqb-true, eqb-false}
use Rattle.std.proofs.lemmas.List.Elements.{All-nil, All-cons, All-head, All-tail, length_all_zip}
use Rattle.fl_aliases.specs.Expansion.{Expands, NoDollar}
use Rattle.fl_aliases.specs.Table.{Table}
use Rattle.fl_aliases.specs.Words.{Word}
use Rattle.fl_script.specs.Grammar.{HoldsBlock, Spells}
use Rattle.fl_script.specs.Reading.{SpellsReplaced}
use Rattle.fl_script.specs.declared.line.Line.{Line}
use Rattle.fl_script.specs.declared.unread.Unread.{Unread}
use Rattle.fl_script.specs.parts.Meaning.{WantsMemory}
use Rattle.fl_script.specs.parts.Reads.{Reads, StarvesIf}
use Rattle.fl_script.specs.laws.NoAs.{few_spell}
use Rattle.fl_script.specs.laws.Replacing.{same_replaced, clean_stay}

-- of each byte it is known whether it is a `$`
other_or_not : (b : ℕ) (r : Bool) → (b == 36) ≡ r → (b ≢ 36) ⊎ ¬ (b ≢ 36)
other_or_not b true e = inr (λ other. other (eqb-true b 36 e))
other_or_not b false e = inl (eqb-false b 36 e)

all_or_not : {X : Type 0} (P : X → Type 0) → ((x : X) → P x ⊎ ¬ P x) → (xs : List X) → All P xs ⊎ ¬ All P xs
all_or_not P known [] = inl (All-nil P)
all_or_not P known (x ∷ xs) = elim (known x) [
  | inr none ↦ inr (λ all. none (All-head P x xs all))
  | inl first ↦ elim (all_or_not P known xs) [
    | inl rest ↦ inl (All-cons P x xs first rest)
    | inr none ↦ inr (λ all. none (All-tail P x xs all))
  ]
]

clean_or_not : (bytes : List ℕ) → NoDollar bytes ⊎ ¬ NoDollar bytes
clean_or_not bytes = all_or_not (λ b. b ≢ 36) (λ b. other_or_not b (b == 36) refl) bytes

module _ (table : Table) where
  -- what is read of the replaced words is read of the words
  pub read_replaced : (words replaced : List Word) → AllZip (Expands table) words replaced → (r : Result Line Unread) → Reads r (λ line. Spells line replaced) → Reads r (λ line. SpellsReplaced table line words)
  read_replaced words replaced each (Ok line) spelled = record { replaced = replaced; each = each; spelled = spelled }
  read_replaced words replaced each (Err e) none = λ bad line s. none bad line (subst (Spells line) (same_replaced table words s.replaced replaced s.each each) s.spelled)

  -- too many words
  pub too_many : (words : List Word) → 8 < length words → (line : Line) → SpellsReplaced table line words → ⊥
  too_many words many line s = absurd (omega (arith, many, few_spell line s.replaced s.spelled, length_all_zip (Expands table) words s.replaced s.each))

  -- a line that its replaced words do not spell because they cannot be replaced
  pub none_spelled : (words : List Word) → ((replaced : List Word) → AllZip (Expands table) words replaced → ⊥) → (line : Line) → SpellsReplaced table line words → ⊥
  none_spelled words none line s = none s.replaced s.each

  -- reading the replaced words may want memory only where reading the words may
  pub wants_as_replaced : (words replaced : List Word) → AllZip (Expands table) words replaced → HoldsBlock replaced → WantsMemory words
  wants_as_replaced words replaced each holds =
      elim (all_or_not NoDollar clean_or_not words) [
        | inl clean ↦ record { is = inr (subst HoldsBlock (same_replaced table words replaced words each (clean_stay table words clean)) holds) }
        | inr dollar ↦ record { is = inl dollar }
      ]

-- memory may always be refused
pub may_starve : {T : Type 0} {Q : Type 0} (r : Result T Unread) → Q → StarvesIf r Q
may_starve (Ok x) q = tt
may_starve (Err e) q = λ memory. q
