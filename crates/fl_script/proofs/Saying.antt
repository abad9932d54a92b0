-- What words say, and that they say nothing else.
use Rattle.std.proofs.Common.{◌≡◌, ◌<◌, false, sym, ap, subst, ◌∙◌, true≢false, ℕ, List, [], ◌∷◌, length, Option, None, Some, true, codes, length-append, arith}
use Rattle.std.specs.List.{All}
use Rattle.std.proofs.lemmas.List.Elements.{length_all_zip}
use Rattle.fl_aliases.specs.Alias.{alias_text}
use Rattle.fl_aliases.specs.Expansion.{Expands, NoDollar}
use Rattle.fl_aliases.specs.Table.{Table}
use Rattle.fl_aliases.specs.Words.{Word}
use Rattle.fl_script.specs.Grammar.{Spells}
use Rattle.fl_script.specs.parts.Meaning.{CanBeNamed}
use Rattle.fl_script.specs.Reading.{makes, EndsInAlias, WordsSay, SpellsReplaced, SpellsNamed}
use Rattle.fl_script.specs.declared.line.Line.{Line}
use Rattle.fl_script.specs.laws.Ends.{same_ends}
use Rattle.fl_script.specs.laws.OneReading.{none_with_as, same_line}
use Rattle.fl_script.specs.laws.NamedLines.{named_dollar}
use Rattle.fl_script.specs.laws.NoAs.{few_spell_made}
use Rattle.fl_script.proofs.ReplacedWords.{too_many}
use Rattle.fl_script.specs.laws.Replacing.{clean_stay, same_replaced}

module _ (table : Table) where
  -- words with no `$` say the line that they spell
  pub clean_says : (words : List Word) → All NoDollar words → (line : Line) → Spells line words → WordsSay table line None words
  clean_says words clean line s = record { replaced = words; each = clean_stay table words clean; spelled = s }

  -- and nothing where they spell none
  pub clean_none : (words : List Word) → All NoDollar words → ((line : Line) → Spells line words → ⊥) → (line : Line) (alias : Option (List ℕ)) → WordsSay table line alias words → ⊥
  clean_none words clean none line None s = none line (subst (Spells line) (same_replaced table words s.replaced words s.each (clean_stay table words clean)) s.spelled)
  clean_none words clean none line (Some alias) s = named_dollar words s.front alias s.split clean

  -- the line that the words spell makes nothing
  pub not_made : (words : List Word) (a : Line) → SpellsReplaced table a words → makes a ≡ false → (b : Line) → CanBeNamed table b words → ⊥
  not_made words a s e b t = true≢false (sym t.made ∙ ap makes (same_line table words b a t.spelled s) ∙ e)

  pub none_named : (words : List Word) → ((line : Line) → SpellsReplaced table line words → ⊥) → (line : Line) → CanBeNamed table line words → ⊥
  none_named words none line s = none line s.spelled

  -- words that do not end in an alias, and spell no line
  pub plain_none : (words : List Word) → ((front : List Word) (alias : List ℕ) → EndsInAlias front alias words → ⊥) → ((line : Line) → SpellsReplaced table line words → ⊥) → (line : Line) (alias : Option (List ℕ)) → WordsSay table line alias words → ⊥
  plain_none words no_end none line None s = none line s
  plain_none words no_end none line (Some alias) s = no_end s.front alias (record { split = s.split; is_alias = s.is_alias })

  -- words that end in an alias, and spell no line for which it can stand
  pub named_none : (words front : List Word) (alias : List ℕ) → EndsInAlias front alias words → ((line : Line) → CanBeNamed table line front → ⊥) → (line : Line) (other : Option (List ℕ)) → WordsSay table line other words → ⊥
  named_none words front alias end none line None s = none_with_as table line front (alias_text alias ∷ []) (subst (SpellsReplaced table line) end.split s)
  named_none words front alias end none line (Some other) s =
      let same = same_ends s.front front (codes "as") (alias_text other) (codes "as") (alias_text alias) (sym s.split ∙ end.split) in
      none line (record { made = s.made; room = s.room; spelled = subst (SpellsReplaced table line) same.0 s.spelled })

  pub says_named : (words front : List Word) (alias : List ℕ) (line : Line) → EndsInAlias front alias words → CanBeNamed table line front → SpellsNamed table line alias words
  says_named words front alias line end s = record { front = front; split = end.split; is_alias = end.is_alias; made = s.made; room = s.room; spelled = s.spelled }

  -- too many words say nothing
  pub many_say_none : (words : List Word) → 8 < length words → (line : Line) (alias : Option (List ℕ)) → WordsSay table line alias words → ⊥
  many_say_none words many line None s = too_many table words many line s
  many_say_none words many line (Some alias) s =
      let count = ap length s.split ∙ length-append s.front (codes "as" ∷ alias_text alias ∷ []) in
      too_many_front s.front (omega (arith, many, count)) s.made s.spelled
    where
      too_many_front : (front : List Word) → 6 < length front → makes line ≡ true → SpellsReplaced table line front → ⊥
      too_many_front front many made s = absurd (omega (arith, many, few_spell_made line s.replaced made s.spelled, length_all_zip (Expands table) front s.replaced s.each))
