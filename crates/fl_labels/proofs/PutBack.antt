-- An item that is taken out of a list and put back where it was.
use Rattle.std.proofs.Common.{arith, ℕ, zero, suc, ◌<◌, ◌≡◌, List, [], ◌∷◌, length, get_or, sym, ap, subst, ◌∙◌, Ok}
use Rattle.std.specs.FinMap.{IsAntisymmetric}
use Rattle.std.specs.declared.cmp.Ordering.{Ordering}
use Rattle.std.specs.List.{insert, remove}
use Rattle.std.specs.List.Sorted.{IsStrictlySortedBy, IsBinarySearchResult}
use Rattle.std.specs.declared.cmp.Ordering.TheVariants.{Equal}
use Rattle.fl_labels.specs.SetBy.{SetBy, of_list}
use Rattle.fl_labels.specs.laws.SortedVec.{Lists}

put_back : {K : Type 0} (xs : List K) (i : ℕ) (x : K) → i < length xs → ((d : K) → get_or xs i d ≡ x)
    → insert (remove xs i) i x ≡ xs
put_back [] i x h at = absurd (omega arith)
put_back (y ∷ ys) zero x h at = ap (λ z. z ∷ ys) (sym (at x))
put_back (y ∷ ys) (suc i) x h at = ap (λ l. y ∷ l) (put_back ys i x (omega arith) at)

-- a set in a sorted `Vec`, from which an item was taken that a search found, is again what it was
pub restored : {K : Type 0} {R : K → K → Ordering} (exact : IsAntisymmetric R) (xs : List K) (s : SetBy R)
    → IsStrictlySortedBy R xs → of_list xs ≡ s
    → (ys : List K) → ys ≡ xs → (x : K) (i : ℕ) (rest zs : List K) → i < length ys
    → IsBinarySearchResult (λ y. R y x) ys (Ok i)
    → rest ≡ remove xs i → zs ≡ insert rest i x → Lists R zs s
restored {K} {R} exact xs s up view ys same x i rest zs within at out back =
    let here : i < length xs = subst (λ l. i < length l) same within in
    let again : xs ≡ zs = sym (back ∙ ap (λ l. insert l i x) out ∙ put_back xs i x here
    (λ d. exact _ x (subst (λ l. R (get_or l i d) x ≡ Equal) same (at d)))) in
    record { rises = subst (IsStrictlySortedBy R) again up; view = ap of_list (sym again) ∙ view }
