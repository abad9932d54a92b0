-- Aliases that stand in a text.
use Rattle.std.proofs.Common.{◌≡◌, ◌≢◌, ◌↔◌, ◌⊎◌, inl, inr, ℕ, ◌<◌, ◌+◌, ◌-◌, Bool, true, false, true≢false, IsTrue, Option, Some, List, [], ◌∷◌, ◌++◌, length, take, drop, nat_eq, slice_index, slice_index_or, sym, ap, subst, refl, ◌∙◌, arith}
use Rattle.std.specs.Cmp.Lexicographic.{pointwise, bytes_decides}
use Rattle.std.proofs.Math.Seq.{take-append_seam}
use Rattle.std.proofs.lemmas.List.{append_cancel_left, append_assoc, drop_more, length-drop, take_all, take-append-drop}
use Rattle.std.proofs.lemmas.List.Elements.{All-head, All-tail}
use Rattle.fl_aliases.specs.Expansion.{NoDollar, NoLetterFirst}
use Rattle.fl_aliases.specs.laws.Runs.{head_of, tail_of}
use Rattle.fl_crew_turns.specs.Naming.{BeginsWith, BeginsWithOne, IsNamedIn}

pub not_true : ¬ IsTrue false
not_true e = true≢false (sym e)

pub both : {P Q R : Type 0} → P ↔ Q → Q ↔ R → P ↔ R
both h k = ((λ p. k.0 (h.0 p)), (λ r. h.1 (k.1 r)))

-- a text that has the alias in front is the alias, and what is behind it
pub front_is : (alias text behind : List ℕ) → pointwise nat_eq (take (length alias) text) alias ≡ true → behind ≡ drop (length alias) text → text ≡ alias ++ behind
front_is alias text behind same is =
    sym (take-append-drop (length alias) text) ∙ ap (λ l. l ++ drop (length alias) text) ((bytes_decides (take (length alias) text) alias).0 same) ∙ ap (λ l. alias ++ l) (sym is)

pub begins_so : (test : Bool) (alias text behind : List ℕ) → text ≡ alias ++ behind → IsTrue test ↔ NoLetterFirst behind → IsTrue test ↔ BeginsWith alias text
begins_so test alias text behind cut whole =
    ((λ t. record { rest = behind; cut = cut; whole = whole.0 t }), (λ (b : BeginsWith alias text). whole.1 (subst NoLetterFirst (append_cancel_left alias b.rest behind (sym b.cut ∙ cut)) b.whole)))

pub begins_not : (alias text : List ℕ) → pointwise nat_eq (take (length alias) text) alias ≡ false → ¬ BeginsWith alias text
begins_not alias text other b =
    true≢false (sym ((bytes_decides (take (length alias) text) alias).1 (ap (take (length alias)) b.cut ∙ take-append_seam alias b.rest)) ∙ other)

-- a text is cut where a `$` stands
pub cut_dollar : (text : List ℕ) (at : ℕ) → at < length text → slice_index text at ≡ 36 → text ≡ take at text ++ 36 ∷ take (length text - (at + 1)) (drop (at + 1) text)
cut_dollar text at inside found =
    sym (take-append-drop at text)
    ∙ ap (λ x. take at text ++ x) (drop_more text at 0 inside ∙ ap (λ b. b ∷ drop (at + 1) text) found
    ∙ ap (λ l. 36 ∷ l) (sym (take_all (length text - (at + 1)) (drop (at + 1) text) (omega (arith, length-drop (at + 1) text)))))

-- each `$` is the first one, or stands behind it
first_or_behind : (front behind before after : List ℕ) → NoDollar front → front ++ 36 ∷ behind ≡ before ++ 36 ∷ after → (behind ≡ after) ⊎ ((more : List ℕ) × (behind ≡ more ++ 36 ∷ after))
first_or_behind [] behind [] after none e = inl (tail_of e)
first_or_behind [] behind (b ∷ before) after none e = inr (before, tail_of e)
first_or_behind (f ∷ front) behind [] after none e = absurd (All-head (λ b. b ≢ 36) f front none (head_of e))
first_or_behind (f ∷ front) behind (b ∷ before) after none e = first_or_behind front behind before after (All-tail (λ b. b ≢ 36) f front none) (tail_of e)

dollar_stands : (front behind : List ℕ) → ¬ NoDollar (front ++ 36 ∷ behind)
dollar_stands [] behind none = All-head (λ b. b ≢ 36) 36 behind none refl
dollar_stands (b ∷ front) behind none = dollar_stands front behind (All-tail (λ b. b ≢ 36) b (front ++ 36 ∷ behind) none)

module _ (aliases : List (Option (List ℕ))) where
  -- behind the first `$` stands one of the aliases
  pub named_there : (text front behind : List ℕ) → text ≡ front ++ 36 ∷ behind → BeginsWithOne aliases behind → IsNamedIn aliases text
  named_there text front behind cut begins = record { front = front; behind = behind; cut = cut; begins = begins }

  -- where none stands there, one is named in the text just where one is in what is behind
  pub named_behind : (text front behind : List ℕ) → text ≡ front ++ 36 ∷ behind → NoDollar front → ¬ BeginsWithOne aliases behind → IsNamedIn aliases text ↔ IsNamedIn aliases behind
  named_behind text front behind cut none other = (
    (λ (n : IsNamedIn aliases text). elim (first_or_behind front behind n.front n.behind none (sym cut ∙ n.cut)) as (λ _. IsNamedIn aliases behind) [
      | inl e ↦ absurd (other (subst (BeginsWithOne aliases) (sym e) n.begins))
      | inr more ↦ record { front = more.0; behind = n.behind; cut = more.1; begins = n.begins }
    ]),
    (λ (n : IsNamedIn aliases behind). record {
      front = front ++ 36 ∷ n.front;
      behind = n.behind;
      cut = cut ∙ ap (λ b. front ++ 36 ∷ b) n.cut ∙ sym (append_assoc front (36 ∷ n.front) (36 ∷ n.behind));
      begins = n.begins;
    }),
  )

  -- where no `$` stands, none is named
  pub named_nowhere : (text : List ℕ) → NoDollar text → ¬ IsNamedIn aliases text
  named_nowhere text none named = dollar_stands named.front named.behind (subst NoDollar named.cut none)

  -- of no alias is none named
  pub begins_nowhere : (text : List ℕ) → ((k : ℕ) (d : Option (List ℕ)) (alias : List ℕ) → k < length aliases → slice_index_or aliases k d ≡ Some alias → ¬ BeginsWith alias text) → ¬ BeginsWithOne aliases text
  begins_nowhere text none one = none one.listed.0 (Some one.alias) one.alias one.listed.1 one.listed.2 one.begins
