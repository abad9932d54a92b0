-- What a sort and a `dedup` leave.
use Rattle.std.proofs.Common.{◌≡◌, Bool, List, [], refl, sym, ap, subst, ◌∙◌, Ordering}
use Rattle.std.specs.Cmp.{IsTotalOrder, Equal-is, alike_right, eq_by_cmp_equiv, both_ways}
use Rattle.std.specs.FinMap.{IsAntisymmetric}
use Rattle.std.specs.List.{list_any, dedup}
use Rattle.std.specs.List.Retain.{IsFiltered, DiffersFromLast}
use Rattle.std.specs.List.Sorted.{IsStrictlySortedBy, IsSorted, IsPermutation}
use Rattle.std.specs.Ordering.{eq_by_cmp, is_eq}
use Rattle.std.proofs.lemmas.List.Filters.{dedup_is}
use Rattle.std.proofs.lemmas.List.Folds.{Any-from_list_any, list_any-from_Any}
use Rattle.std.proofs.lemmas.List.Kept.{IsStrictlySortedBy-dedup, Contains-from_dedup, Any-dedup}
use Rattle.std.proofs.lemmas.List.Sorted.{list_any-IsPermutation}
use Rattle.fl_labels.specs.SetBy.{contains, of_list, contains-of_list, same_set}
use Rattle.fl_labels.specs.Arranged.{IsArranged}

module _ {K : Type 0} {R : K → K → Ordering} (o : IsTotalOrder R) where
  -- `dedup` keeps each member
  members-dedup : (ys : List K) (q : K) → list_any (eq_by_cmp R q) (dedup (eq_by_cmp R) ys) ≡ list_any (eq_by_cmp R q) ys
  members-dedup ys q = both_ways _ _
      (λ h. let at = Any-from_list_any (eq_by_cmp R q) _ h in
      let there = Contains-from_dedup (eq_by_cmp R) ys at.1 (at.0, at.2, at.3) in
      list_any-from_Any (eq_by_cmp R q) ys (there.0, at.1, there.1, there.2, at.4))
      (λ h. let at = Any-from_list_any (eq_by_cmp R q) ys h in
      let there = Any-dedup (eq_by_cmp_equiv o) ys at.1 (at.0, at.2, at.3) in
      list_any-from_Any (eq_by_cmp R q) _ (there.0, there.1, there.2, there.3, ap is_eq (sym (alike_right o at.1 there.1 q ((Equal-is (R at.1 there.1)).0 there.4))) ∙ at.4))

  -- after a sort and a `dedup`
  pub arranged : (E : K → K → Bool) → ((x y : K) → E x y ≡ eq_by_cmp R x y) → (xs ys zs : List K) → IsPermutation xs ys → IsSorted R ys → IsFiltered (DiffersFromLast E) [] ys zs → IsArranged R xs zs
  arranged E ties xs ys zs permuted sorted kept =
      let left : zs ≡ dedup (eq_by_cmp R) ys = dedup_is E ys zs kept ∙ ap (λ F. dedup F ys) (λ i x y. ties x y i) in
      record {
        rises = subst (IsStrictlySortedBy R) (sym left) (IsStrictlySortedBy-dedup o (λ x y. refl) ys sorted);
        same = λ q. ap (λ l. contains (of_list {R = R} l) q) left ∙ contains-of_list o _ q ∙ members-dedup ys q ∙ sym (list_any-IsPermutation (eq_by_cmp R q) xs ys permuted) ∙ sym (contains-of_list o xs q);
      }

  -- the set of what is arranged is the set
  pub arranged_set : IsAntisymmetric R → (xs ys : List K) → IsArranged R xs ys → of_list {R = R} ys ≡ of_list xs
  arranged_set exact xs ys a = same_set o exact _ _ a.same
