-- Bytes have one reading at most.
use Rattle.std.proofs.Common.{◌≡◌, ◌≢◌, ◌++◌, sym, ap, subst, refl, ◌∙◌, ℕ, List, [], ◌∷◌, Option, None, Some, codes, arith}
use Rattle.std.proofs.lemmas.List.Elements.{All-nil, All-cons}
use Rattle.fl_aliases.specs.Alias.{alias_text}
use Rattle.fl_aliases.specs.Expansion.{NoDollar}
use Rattle.fl_aliases.specs.Table.{Table}
use Rattle.fl_aliases.specs.Words.{Word, words_of}
use Rattle.fl_script.specs.Grammar.{Spells}
use Rattle.fl_script.specs.Reading.{IsReading, SpellsReplaced, SpellsNamed, WordsSay}
use Rattle.fl_script.specs.declared.line.Line.{Line}
use Rattle.fl_script.specs.declared.reading.Reading.{Reading}
use Rattle.fl_script.specs.declared.reading.Reading.TheVariants.{Quiet, Bad, Means}
use Rattle.fl_script.specs.laws.Ends.{same_ends}
use Rattle.fl_script.specs.laws.NoAs.{no_as}
use Rattle.fl_script.specs.laws.OneLine.{one_line}
use Rattle.fl_script.specs.laws.Replacing.{same_replaced, word_stays}

as_is_clean : NoDollar (codes "as")
as_is_clean = All-cons (λ b. b ≢ 36) 97 (115 ∷ []) (λ e. absurd (omega (arith, e))) (All-cons (λ b. b ≢ 36) 115 [] (λ e. absurd (omega (arith, e))) (All-nil (λ b. b ≢ 36)))

module _ (table : Table) where
  -- words that end in `as $x` spell no line where all of them are replaced
  pub none_with_as : (line : Line) (front back : List Word) → SpellsReplaced table line (front ++ codes "as" ∷ back) → ⊥
  none_with_as line front back s =
      let kept = word_stays table (codes "as") as_is_clean front back s.replaced s.each in
      no_as line kept.front kept.back (subst (Spells line) kept.is s.spelled)

  pub same_line : (words : List Word) (a b : Line) → SpellsReplaced table a words → SpellsReplaced table b words → a ≡ b
  same_line words a b s t = one_line a b t.replaced (subst (Spells a) (same_replaced table words s.replaced t.replaced s.each t.each) s.spelled) t.spelled

  -- the two ways exclude each other
  pub not_both : (words : List Word) (a b : Line) (alias : List ℕ) → SpellsReplaced table a words → SpellsNamed table b alias words → ⊥
  not_both words a b alias s t = none_with_as a t.front (alias_text alias ∷ []) (subst (SpellsReplaced table a) t.split s)

  same_meaning : (words : List Word) (a b : Line) (x y : Option (List ℕ)) → WordsSay table a x words → WordsSay table b y words → Means a x ≡ Means b y
  same_meaning words a b None None s t = ap (λ l. Means l None) (same_line words a b s t)
  same_meaning words a b None (Some y) s t = absurd (not_both words a b y s t)
  same_meaning words a b (Some x) None s t = absurd (not_both words b a x t s)
  same_meaning words a b (Some x) (Some y) s t =
      let same = same_ends s.front t.front (codes "as") (alias_text x) (codes "as") (alias_text y) (sym s.split ∙ t.split) in
      let line = same_line t.front a b (subst (SpellsReplaced table a) same.0 s.spelled) t.spelled in
      let letters : x ≡ y = cc (same.1) in
      (λ i. Means (line i) (Some (letters i)))

pub one_reading : (table : Table) (bytes : List ℕ) (r s : Reading) → IsReading table bytes r → IsReading table bytes s → r ≡ s
one_reading table bytes Quiet Quiet p q = refl
one_reading table bytes Quiet Bad p q = absurd (q.loud p)
one_reading table bytes Quiet (Means line alias) p q = absurd (q.asking.loud p)
one_reading table bytes Bad Quiet p q = absurd (p.loud q)
one_reading table bytes Bad Bad p q = refl
one_reading table bytes Bad (Means line alias) p q = absurd (p.says_none q.asking.text line alias q.said)
one_reading table bytes (Means line alias) Quiet p q = absurd (p.asking.loud q)
one_reading table bytes (Means line alias) Bad p q = absurd (q.says_none p.asking.text line alias p.said)
one_reading table bytes (Means line alias) (Means other named) p q = same_meaning table (words_of bytes) line other alias named p.said q.said
