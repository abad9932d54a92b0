-- The uses of groups, kept beside a set as that changes.
use Rattle.std.proofs.Common.{◌≡◌, Bool, true, false, List, [], sym, ap, subst, ◌∙◌, refl}
use Rattle.std.specs.Prelude.{◌&&◌, ◌||◌, not}
use Rattle.std.specs.Cmp.{Equal-is}
use Rattle.std.specs.List.{filter}
use Rattle.std.specs.List.Sorted.{IsStrictlySortedBy}
use Rattle.std.specs.Ordering.{eq_by_cmp}
use Rattle.std.proofs.lemmas.List.Kept.{IsStrictlySortedBy-filter}
use Rattle.std.proofs.lemmas.Map.Views.{any-filter_same}
use Rattle.fl_labels.specs.declared.cap.Cap.{Cap}
use Rattle.fl_labels.specs.Cap.{cap_cmp, is_use}
use Rattle.fl_labels.specs.CapOrder.{cap_total, cap_exact}
use Rattle.fl_labels.specs.SetBy as set
use Rattle.fl_labels.specs.SetBy.{SetBy, contains, of_list, contains-of_list, contains-empty, contains-insert, contains-remove, contains-union, same_set}
use Rattle.fl_labels.specs.Uses.{AreUsesOf}
use Rattle.fl_labels.specs.declared.deque.CapDeque.{CapDeque}
use Rattle.fl_labels.specs.parts.Apart.{AreApart}
use Rattle.fl_labels.specs.parts.Deque.{items, IsDeque}
use Rattle.fl_labels.proofs.Unions.{Holds}

put_in : (e u a : Bool) → (e ≡ true → u ≡ true) → (e || (u && a)) ≡ (u && (e || a))
put_in true u a h = ap (λ b. b && true) (sym (h refl))
put_in false u a h = refl

left_out : (e u a : Bool) → (e ≡ true → u ≡ false) → (u && a) ≡ (u && (e || a))
left_out true u a h = ap (λ b. b && a) (h refl) ∙ ap (λ b. b && true) (sym (h refl))
left_out false u a h = refl

taken_out : (e u a : Bool) → (not e && (u && a)) ≡ (u && (not e && a))
taken_out true true a = refl
taken_out true false a = refl
taken_out false u a = refl

joined : (u a b : Bool) → ((u && a) || (u && b)) ≡ (u && (a || b))
joined true a b = refl
joined false a b = refl

never : (u : Bool) → false ≡ (u && false)
never true = refl
never false = refl

back_in : (e a : Bool) → (e ≡ true → a ≡ true) → (e || (not e && a)) ≡ a
back_in true a h = sym (h refl)
back_in false a h = refl

same_cap : (q c : Cap) → eq_by_cmp cap_cmp q c ≡ true → q ≡ c
same_cap q c e = cap_exact q c ((Equal-is (cap_cmp q c)).0 e)

-- the same uses of the same set
pub moved : (s t : SetBy cap_cmp) (us vs : List Cap) → t ≡ s → vs ≡ us → AreUsesOf s us → AreUsesOf t vs
moved s t us vs same list h =
    subst (λ r. AreUsesOf r vs) (sym same) (subst (λ l. AreUsesOf s l) (sym list) h)

-- capabilities that rise, and the uses of their set
pub apart_as : (s : SetBy cap_cmp) (caps uses : CapDeque) → IsStrictlySortedBy cap_cmp (items caps) → of_list (items caps) ≡ s
    → AreUsesOf s (items uses) → IsDeque caps → IsDeque uses → AreApart caps uses
apart_as s caps uses up view h fits uses_fit = record {
  rises = up;
  apart = moved s (of_list (items caps)) (items uses) (items uses) view refl h;
  fits = fits;
  uses_fit = uses_fit;
}

pub no_uses : (s : SetBy cap_cmp) (us : List Cap) → s ≡ set.empty → us ≡ [] → AreUsesOf s us
unfolding IsStrictlySortedBy
no_uses s us same list = moved set.empty s [] us same list (record {
  rise = tt;
  are = λ q. contains-empty cap_cmp q ∙ never (is_use q) ∙ ap (λ b. is_use q && b) (sym (contains-empty cap_cmp q));
})

pub uses_filtered : (xs : List Cap) → IsStrictlySortedBy cap_cmp xs → AreUsesOf (of_list xs) (filter is_use xs)
uses_filtered xs up = record {
  rise = IsStrictlySortedBy-filter cap_cmp is_use xs up;
  are = λ q.
      contains-of_list cap_total (filter is_use xs) q
      ∙ any-filter_same (eq_by_cmp cap_cmp q) is_use (is_use q) (λ k e. ap is_use (sym (same_cap q k e))) xs
      ∙ ap (λ b. is_use q && b) (sym (contains-of_list cap_total xs q));
}

-- a list that rises, with one use more
pub use_put : (s : SetBy cap_cmp) (us vs : List Cap) (c : Cap) → is_use c ≡ true → IsStrictlySortedBy cap_cmp vs
    → of_list {R = cap_cmp} vs ≡ set.insert (of_list us) c → AreUsesOf s us → AreUsesOf (set.insert s c) vs
use_put s us vs c kind up is h = record {
  rise = up;
  are = λ q.
      ap (λ t. contains t q) is
      ∙ contains-insert cap_total (of_list us) c q
      ∙ ap (λ b. eq_by_cmp cap_cmp q c || b) (h.are q)
      ∙ put_in (eq_by_cmp cap_cmp q c) (is_use q) (contains s q) (λ e. ap is_use (same_cap q c e) ∙ kind)
      ∙ ap (λ b. is_use q && b) (sym (contains-insert cap_total s c q));
}

pub other_put : (s : SetBy cap_cmp) (us : List Cap) (c : Cap) → is_use c ≡ false → AreUsesOf s us
    → AreUsesOf (set.insert s c) us
other_put s us c other h = record {
  rise = h.rise;
  are = λ q.
      h.are q
      ∙ left_out (eq_by_cmp cap_cmp q c) (is_use q) (contains s q) (λ e. ap is_use (same_cap q c e) ∙ other)
      ∙ ap (λ b. is_use q && b) (sym (contains-insert cap_total s c q));
}

pub use_taken : (s : SetBy cap_cmp) (us vs : List Cap) (c : Cap) → IsStrictlySortedBy cap_cmp vs
    → of_list {R = cap_cmp} vs ≡ set.remove (of_list us) c → AreUsesOf s us → AreUsesOf (set.remove s c) vs
use_taken s us vs c up is h = record {
  rise = up;
  are = λ q.
      ap (λ t. contains t q) is
      ∙ contains-remove cap_total (of_list us) c q
      ∙ ap (λ b. not (eq_by_cmp cap_cmp q c) && b) (h.are q)
      ∙ taken_out (eq_by_cmp cap_cmp q c) (is_use q) (contains s q)
      ∙ ap (λ b. is_use q && b) (sym (contains-remove cap_total s c q));
}

pub uses_joined : (s t : SetBy cap_cmp) (us vs ws : List Cap) → IsStrictlySortedBy cap_cmp ws
    → Holds (of_list {R = cap_cmp} us) vs (of_list {R = cap_cmp} ws) → AreUsesOf s us → AreUsesOf t vs
    → AreUsesOf (set.union s t) ws
uses_joined s t us vs ws up holds h k = record {
  rise = up;
  are = λ q.
      holds q
      ∙ ap (λ b. contains (of_list {R = cap_cmp} us) q || b) (sym (contains-of_list cap_total vs q) ∙ k.are q)
      ∙ ap (λ b. b || (is_use q && contains t q)) (h.are q)
      ∙ joined (is_use q) (contains s q) (contains t q)
      ∙ ap (λ b. is_use q && b) (sym (contains-union cap_total s t q));
}

-- a member that is taken out and put back
pub put_back_again : (s : SetBy cap_cmp) (c : Cap) → contains s c ≡ true → s ≡ set.insert (set.remove s c) c
put_back_again s c there = sym (same_set cap_total cap_exact (set.insert (set.remove s c) c) s (λ q.
    contains-insert cap_total (set.remove s c) c q
    ∙ ap (λ b. eq_by_cmp cap_cmp q c || b) (contains-remove cap_total s c q)
    ∙ back_in (eq_by_cmp cap_cmp q c) (contains s q) (λ e. ap (contains s) (same_cap q c e) ∙ there)))

-- a use that is a member is one of the uses
pub use_there : (s : SetBy cap_cmp) (us : List Cap) (c : Cap) → AreUsesOf s us → contains s c ≡ true → is_use c ≡ true
    → contains (of_list {R = cap_cmp} us) c ≡ true
use_there s us c h there kind = h.are c ∙ ap (λ b. b && contains s c) kind ∙ there
