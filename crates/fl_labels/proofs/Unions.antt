-- What puts the members of one set into another.
use Rattle.std.proofs.Common.{arith, ℕ, ◌+◌, ◌<◌, ◌≡◌, Bool, true, false, List, [], ◌∷◌, length, take, get_or, sym, ap, refl, ◌∙◌}
use Rattle.std.specs.Prelude.{◌||◌, MatchBool}
use Rattle.std.specs.Cmp.{IsTotalOrder}
use Rattle.std.specs.FinMap.{IsAntisymmetric}
use Rattle.std.specs.declared.cmp.Ordering.{Ordering}
use Rattle.std.specs.List.{list_any, AllWithin, HoldsAt}
use Rattle.std.specs.Ordering.{eq_by_cmp}
use Rattle.std.proofs.lemmas.Bool.{false≢true}
use Rattle.std.proofs.lemmas.List.{get_or_default}
use Rattle.std.proofs.lemmas.List.Folds.{list_any_more}
use Rattle.fl_labels.specs.Found.{Tells, Within}
use Rattle.fl_labels.specs.SetBy.{SetBy, In, of_list, insert, union, contains, same_set, contains-of_list, contains-insert, contains-union}
use Rattle.fl_labels.specs.laws.SortedVec.{every_member, item_member}

-- the set s has the members of old, and these items
abbrev pub Holds : {K : Type 0} {R : K → K → Ordering} → SetBy R → List K → SetBy R → Type 0
Holds {K} {R} old items s = (q : K) → contains s q ≡ (contains old q || list_any (eq_by_cmp R q) items)

or_round : (a b c : Bool) → (a || (b || c)) ≡ (b || (c || a))
or_round true true c = refl
or_round true false true = refl
or_round true false false = refl
or_round false true c = refl
or_round false false true = refl
or_round false false false = refl

or_nothing : (a : Bool) → a ≡ (a || false)
or_nothing true = refl
or_nothing false = refl

or_within : (a b : Bool) → (b ≡ true → a ≡ true) → a ≡ (a || b)
or_within true b h = refl
or_within false true h = h refl
or_within false false h = refl

module _ {K : Type 0} {R : K → K → Ordering} where
  pub holds_none : (s : SetBy R) → Holds s [] s
  holds_none s q = or_nothing _

  module _ (o : IsTotalOrder R) (exact : IsAntisymmetric R) where
    -- one item more, as at a step of a loop
    pub holds_more : (old s t : SetBy R) (items : List K) (i : ℕ) (x : K) → i < length items → get_or items i x ≡ x
        → Holds old (take i items) s → t ≡ insert s x → Holds old (take (i + 1) items) t
    holds_more old s t items i x within at h is q =
        ap (λ u. contains u q) is
        ∙ contains-insert o s x q
        ∙ ap (λ b. eq_by_cmp R q x || b) (h q)
        ∙ or_round (eq_by_cmp R q x) (contains old q) _
        ∙ ap (λ b. contains old q || b)
        (sym (list_any_more (eq_by_cmp R q) items i x within ∙ ap (λ y. list_any (eq_by_cmp R q) (take i items) || eq_by_cmp R q y) at))

    pub holds_union : (s t : SetBy R) (xs ys : List K) (u : SetBy R) → of_list xs ≡ s → of_list ys ≡ t
        → Holds (of_list xs) ys u → u ≡ union s t
    holds_union s t xs ys u old other h = same_set o exact u (union s t) (λ q.
        h q
        ∙ ap (λ b. contains (of_list {R = R} xs) q || b) (sym (contains-of_list o ys q))
        ∙ (λ i. contains (old i) q || contains (other i) q)
        ∙ sym (contains-union o s t q))

    -- where nothing is new
    pub union_within : (s t : SetBy R) → Within (In t) (In s) → s ≡ union s t
    union_within s t h = same_set o exact s (union s t) (λ q. or_within _ _ (h q) ∙ sym (contains-union o s t q))

    pub each_told : (b : Bool) (items : List K) (s t : SetBy R) → of_list items ≡ t
        → MatchBool b (AllWithin (In s) items 0 (length items))
        ((k : ℕ) × (k < length items) × HoldsAt (λ x. contains s x ≡ false) items k)
        → Tells b (Within (In t) (In s))
    each_told true items s t listed all = record {
      holds = λ e. every_member o exact (In s) items t listed (λ k d within. all k d (omega arith) within);
      fails = λ e. absurd (false≢true (sym e));
    }
    each_told false [] s t listed one = absurd (omega (arith, one.1))
    each_told false (x ∷ xs) s t listed one = record {
      holds = λ e. absurd (false≢true e);
      fails = λ e h.
          let q = get_or (x ∷ xs) one.0 x in
          absurd (false≢true (sym (one.2 x) ∙ h q
          (item_member o exact (x ∷ xs) t listed q one.0 one.1 (get_or_default (x ∷ xs) one.0 q x one.1))));
    }
