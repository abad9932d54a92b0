-- What two capabilities are as a set, listed.
use Rattle.std.proofs.Common.{◌≡◌, ◌∙◌, refl, sym, ap, List, [], ◌∷◌, Bool, true, false}
use Rattle.std.specs.Prelude.{◌||◌}
use Rattle.std.specs.Ordering.{eq_by_cmp, ordering_reverse}
use Rattle.std.specs.List.Sorted.{IsStrictlySortedBy}
use Rattle.std.specs.declared.cmp.Ordering.TheVariants.{Less, Equal, Greater}
use Rattle.fl_labels.specs.Cap.{cap_cmp}
use Rattle.fl_labels.specs.CapOrder.{cap_total, cap_exact}
use Rattle.fl_labels.specs.SetBy.{contains, members, of_list, members-of_list, same_set, contains-of_list}
use Rattle.fl_labels.specs.declared.cap.Cap.{Cap}

abbrev listed : List Cap → List Cap
listed caps = members (of_list {R = cap_cmp} caps)

rising : (a b : Cap) → cap_cmp a b ≡ Less → IsStrictlySortedBy cap_cmp (a ∷ b ∷ [])
unfolding IsStrictlySortedBy
rising a b h = ((h, tt), (tt, tt))

none_rise : IsStrictlySortedBy cap_cmp []
unfolding IsStrictlySortedBy
none_rise = tt

alone : (a : Cap) → IsStrictlySortedBy cap_cmp (a ∷ [])
unfolding IsStrictlySortedBy
alone a = (tt, tt)

pub none : [] ≡ listed []
none = sym (members-of_list cap_total cap_exact [] none_rise)

pub one : (a : Cap) → a ∷ [] ≡ listed (a ∷ [])
one a = sym (members-of_list cap_total cap_exact (a ∷ []) (alone a))

pub two : (a b : Cap) → cap_cmp a b ≡ Less → a ∷ b ∷ [] ≡ listed (a ∷ b ∷ [])
two a b h = sym (members-of_list cap_total cap_exact (a ∷ b ∷ []) (rising a b h))

or_swap : (x y : Bool) → (x || (y || false)) ≡ (y || (x || false))
or_swap true true = refl
or_swap true false = refl
or_swap false true = refl
or_swap false false = refl

or_twice : (x : Bool) → (x || false) ≡ (x || (x || false))
or_twice true = refl
or_twice false = refl

same_listed : (xs ys : List Cap)
    → ((q : Cap) → contains (of_list {R = cap_cmp} xs) q ≡ contains (of_list {R = cap_cmp} ys) q) → listed xs ≡ listed ys
same_listed xs ys is = ap members (same_set cap_total cap_exact (of_list xs) (of_list ys) is)

-- the greater is named first
pub turned : (a b : Cap) → cap_cmp a b ≡ Greater → b ∷ a ∷ [] ≡ listed (a ∷ b ∷ [])
turned a b h =
    two b a (cap_total.antisymm b a ∙ ap ordering_reverse h)
    ∙ same_listed (b ∷ a ∷ []) (a ∷ b ∷ []) (λ q. contains-of_list cap_total (b ∷ a ∷ []) q
    ∙ or_swap (eq_by_cmp cap_cmp q b) (eq_by_cmp cap_cmp q a)
    ∙ sym (contains-of_list cap_total (a ∷ b ∷ []) q))

-- the same is named twice
pub twice : (a b : Cap) → cap_cmp a b ≡ Equal → a ∷ [] ≡ listed (a ∷ b ∷ [])
twice a b h =
    one a
    ∙ same_listed (a ∷ []) (a ∷ a ∷ []) (λ q. contains-of_list cap_total (a ∷ []) q
    ∙ or_twice (eq_by_cmp cap_cmp q a)
    ∙ sym (contains-of_list cap_total (a ∷ a ∷ []) q))
    ∙ ap (λ c. listed (a ∷ c ∷ [])) (cap_exact a b h)
