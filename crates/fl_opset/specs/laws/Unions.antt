-- The laws of unions, and when two sets are equal.
use Rattle.std.proofs.Common.{◌≡◌, Bool, true, false, ◌||◌, ◌↔◌, refl, sym, ap, ◌∙◌, inl, inr, Ordering}
use Rattle.std.specs.Cmp.{IsTotalOrder}
use Rattle.std.specs.FinMap.{IsAntisymmetric}
use Rattle.std.proofs.lemmas.Bool.{or_cases}
use Rattle.fl_labels.specs.SetBy.{SetBy, contains, contains-union, union, same_set, In}
use Rattle.fl_labels.specs.Found.{Within}

or_assoc : (a b c : Bool) → ((a || b) || c) ≡ (a || (b || c))
or_assoc true b c = refl
or_assoc false b c = refl

or_comm : (a b : Bool) → (a || b) ≡ (b || a)
or_comm true true = refl
or_comm true false = refl
or_comm false true = refl
or_comm false false = refl

or_same : (a : Bool) → (a || a) ≡ a
or_same true = refl
or_same false = refl

or_first : (a b : Bool) → a ≡ true → (a || b) ≡ true
or_first true b e = refl
or_first false b e = absurd (cc)

module _ {K : Type 0} {R : K → K → Ordering} (o : IsTotalOrder R) where
  pub union_upper : (a b : SetBy R) → Within (In a) (In (union a b)) × Within (In b) (In (union a b))
  union_upper a b = (
    λ q h. contains-union o a b q ∙ or_first (contains a q) (contains b q) h,
    λ q h. contains-union o a b q ∙ or_comm (contains a q) (contains b q) ∙ or_first (contains b q) (contains a q) h,
  )

  pub union_least : (a b c : SetBy R) → Within (In a) (In c) → Within (In b) (In c) → Within (In (union a b)) (In c)
  union_least a b c p r q h = elim (or_cases _ _ (sym (contains-union o a b q) ∙ h)) [ inl x ↦ p q x | inr y ↦ r q y ]

  module _ (exact : IsAntisymmetric R) where
    pub union_assoc : (a b c : SetBy R) → union (union a b) c ≡ union a (union b c)
    union_assoc a b c = same_set o exact _ _ (λ q.
        contains-union o (union a b) c q ∙ ap (λ x. x || contains c q) (contains-union o a b q)
        ∙ or_assoc (contains a q) (contains b q) (contains c q)
        ∙ sym (contains-union o a (union b c) q ∙ ap (λ x. contains a q || x) (contains-union o b c q)))

    pub union_comm : (a b : SetBy R) → union a b ≡ union b a
    union_comm a b = same_set o exact _ _ (λ q. contains-union o a b q ∙ or_comm (contains a q) (contains b q) ∙ sym (contains-union o b a q))

    pub union_same : (a : SetBy R) → union a a ≡ a
    union_same a = same_set o exact _ _ (λ q. contains-union o a a q ∙ or_same (contains a q))

    same_test : (a b : Bool) → (a ≡ true ↔ b ≡ true) → a ≡ b
    same_test true b h = sym (h.0 refl)
    same_test false true h = h.1 refl
    same_test false false h = refl

    -- sets with the same members are equal
    pub same_members : (s t : SetBy R) → ((q : K) → In s q ↔ In t q) → s ≡ t
    same_members s t is = same_set o exact s t (λ q. same_test _ _ (is q))
