-- Two lists that rise, merged.
use Rattle.std.proofs.Common.{◌≡◌, ℕ, ◌-◌, ◌≤◌, true, Bool, ◌||◌, List, [], ◌∷◌, ◌++◌, ◌⊎◌, inl, inr, length, drop, get_or, Result, Ok, Err, OnErr, refl, sym, ap, subst, ◌∙◌, Ordering, Less, append-nil, arith}
use Rattle.std.specs.Cmp.{IsTotalOrder}
use Rattle.std.specs.FinMap.{IsAntisymmetric}
use Rattle.std.specs.List.{All, list_any}
use Rattle.std.specs.List.Sorted.{IsStrictlySortedBy}
use Rattle.std.specs.Ordering.{eq_by_cmp, is_lt}
use Rattle.std.specs.Set.{sorted_merge}
use Rattle.std_collections.proofs.SortedSets.{sorted_merged, merge_is_union}
use Rattle.std.proofs.lemmas.Bool.{cases_lt}
use Rattle.std.proofs.lemmas.List.{drop_all}
use Rattle.std.proofs.lemmas.Map.Keys.{Less-from_sorted}
use Rattle.fl_opset.proofs.Partition.{all_below}
use Rattle.fl_labels.specs.Found.{Within}
use Rattle.fl_labels.specs.SetBy.{SetBy, In, of_list, contains, contains-of_list, contains-union, same_set}
use Rattle.fl_labels.specs.SetBy as set
use Rattle.fl_labels.specs.laws.SortedVec.{Lists}
use Rattle.fl_ops.specs.OpLaws.{op_total, op_exact}
use Rattle.fl_ops.specs.OpOrder.{op_cmp}
use Rattle.fl_opset.specs.laws.Unions.{same_members, union_least, union_upper}

module _ {K : Type 0} (R : K → K → Ordering) where
  alone : (b : Bool) (us : List K) → sorted_merge R b us [] ≡ us ++ []
  alone b [] = refl
  alone b (u ∷ us) = sym (append-nil (u ∷ us))

  -- where one list is at its end, the other is what is left
  pub merge_ends : (b : Bool) (xs ys : List K) (i j : ℕ) → (length xs ≤ i) ⊎ (length ys ≤ j) → sorted_merge R b (drop i xs) (drop j ys) ≡ drop i xs ++ drop j ys
  merge_ends b xs ys i j (inl h) = rw (drop_all i xs h) refl
  merge_ends b xs ys i j (inr h) = rw (drop_all j ys h) (alone b (drop i xs))

module _ {K : Type 0} {R : K → K → Ordering} (o : IsTotalOrder R) (exact : IsAntisymmetric R) where
  -- the merge of two sets' items lists their union
  pub merged_lists : (xs ys zs xs' ys' : List K) (s t : SetBy R) → IsStrictlySortedBy R xs → IsStrictlySortedBy R ys → of_list xs ≡ s → of_list ys ≡ t → xs' ≡ xs → ys' ≡ ys → zs ≡ sorted_merge R true xs' ys' → Lists R zs (set.union s t)
  merged_lists xs ys zs xs' ys' s t up_xs up_ys s_is t_is same_xs same_ys is =
      let whole : zs ≡ sorted_merge R true xs ys = is ∙ (λ i. sorted_merge R true (same_xs i) (same_ys i)) in
      record {
        rises = subst (IsStrictlySortedBy R) (sym whole) (sorted_merged o true xs ys up_xs up_ys);
        view = same_set o exact _ _ (λ q.
            contains-of_list o zs q
            ∙ ap (list_any (eq_by_cmp R q)) whole
            ∙ merge_is_union o xs ys q
            ∙ (λ i. sym (contains-of_list o xs q) i || sym (contains-of_list o ys q) i)
            ∙ (λ i. contains (s_is i) q || contains (t_is i) q)
            ∙ sym (contains-union o s t q));
      }

module _ {K : Type 0} {R : K → K → Ordering} (o : IsTotalOrder R) where
  -- where the last of one list is below the first of another, each of the one is below each of the other
  pub each_below : (xs ys : List K) (last first : K) → IsStrictlySortedBy R xs → IsStrictlySortedBy R ys → ((d : K) → last ≡ get_or xs (length xs - 1) d) → ((d : K) → first ≡ get_or ys 0 d) → is_lt (R last first) ≡ true → All (λ x. All (λ y. R x y ≡ Less) ys) xs
  each_below xs ys last first up_xs up_ys at_last at_first below k d within j e inside =
      let under : R (get_or xs k d) first ≡ Less = all_below o xs first last up_xs at_last below k d within in
      elim (cases_lt 0 j) [
        | inl after ↦ o.trans _ first _ under (ap (λ (y : K). R y (get_or ys j e)) (at_first e) ∙ Less-from_sorted R ys 0 j e up_ys after inside)
        | inr start ↦
            let here : j ≡ 0 = omega arith in
            ap (R (get_or xs k d)) (ap (λ n. get_or ys n e) here ∙ sym (at_first e)) ∙ under
      ]

-- where no member of another set is new, the set is the union
pub none_new : (s t : SetBy op_cmp) → Within (In t) (In s) → s ≡ set.union s t
none_new s t within = same_members op_total op_exact s (set.union s t) (λ q. ((union_upper op_total s t).0 q, union_least op_total s t s (λ x h. h) within q))

-- what holds anyway holds of an error
pub on_error : {T E P : Type 0} (r : Result T E) → P → OnErr r P
on_error (Ok x) h = tt
on_error (Err e) h = h
