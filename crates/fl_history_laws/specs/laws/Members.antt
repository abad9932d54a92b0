-- The members of a set of capabilities after one was put, or more, or one was taken out.
use Rattle.std.proofs.Common.{◌≡◌, ◌∙◌, ◌⊎◌, inl, inr, sym, arith, suc, Bool, true, false, List, [], ◌∷◌}
use Rattle.std.specs.Prelude.{not, ◌&&◌, ◌||◌}
use Rattle.std.specs.Cmp.{Equal-is}
use Rattle.std.specs.List.{Contains}
use Rattle.std.specs.Ordering.{eq_by_cmp}
use Rattle.std.proofs.lemmas.Bool.{or_cases, false≢true}
use Rattle.fl_labels.specs.Cap.{cap_cmp}
use Rattle.fl_labels.specs.CapOrder.{cap_total, cap_exact}
use Rattle.fl_labels.specs.SetBy as set
use Rattle.fl_labels.specs.SetBy.{SetBy, In}
use Rattle.fl_labels.specs.declared.cap.Cap.{Cap}

-- ---- what is a member after was one before, or came

removed : (s : SetBy cap_cmp) (c d : Cap) → In (set.remove s c) d → In s d
removed s c d h =
    both (not (eq_by_cmp cap_cmp d c)) (set.contains s d) (sym (set.contains-remove cap_total s c d) ∙ h)
  where
    both : (a b : Bool) → (a && b) ≡ true → b ≡ true
    both true b e = e
    both false b e = absurd (false≢true e)

pub left_in : (s : SetBy cap_cmp) (c d : Cap) → In (set.remove s c) d → In s d
left_in s c d h = removed s c d h

pub put_in : (s : SetBy cap_cmp) (c d : Cap) → In (set.insert s c) d → In s d ⊎ (d ≡ c)
put_in s c d h =
    elim (or_cases (eq_by_cmp cap_cmp d c) (set.contains s d) (sym (set.contains-insert cap_total s c d) ∙ h)) [
      | inl e ↦ inr (cap_exact d c ((Equal-is (cap_cmp d c)).0 e))
      | inr e ↦ inl e
    ]

pub joined_in : (s t : SetBy cap_cmp) (d : Cap) → In (set.union s t) d → In s d ⊎ In t d
joined_in s t d h =
    or_cases (set.contains s d) (set.contains t d) (sym (set.contains-union cap_total s t d) ∙ h)

later_item : (caps : List Cap) (c d : Cap) → Contains caps d → Contains (c ∷ caps) d
later_item caps c d h = (suc h.0, omega (arith, h.1), h.2)

pub all_in : (s : SetBy cap_cmp) (caps : List Cap) (d : Cap) → In (set.insert_all s caps) d → In s d ⊎ Contains caps d
all_in s [] d h = inl h
all_in s (c ∷ caps) d h = elim (put_in (set.insert_all s caps) c d h) [
  | inl h ↦ elim (all_in s caps d h) [ inl h ↦ inl h | inr h ↦ inr (later_item caps c d h) ]
  | inr e ↦ inr (0, omega arith, sym e)
]

pub none_in_empty : (c : Cap) → ¬ In (set.empty {R = cap_cmp}) c
none_in_empty c h = absurd (false≢true (sym (set.contains-empty cap_cmp c) ∙ h))

-- ---- what was a member is one, but for what is taken out

or_right : (a b : Bool) → b ≡ true → (a || b) ≡ true
or_right true b e = cc
or_right false b e = e

or_left : (a b : Bool) → a ≡ true → (a || b) ≡ true
or_left true b e = cc
or_left false b e = absurd (false≢true e)

pub still_put : (s : SetBy cap_cmp) (c d : Cap) → In s d → In (set.insert s c) d
still_put s c d h = set.contains-insert cap_total s c d ∙ or_right (eq_by_cmp cap_cmp d c) (set.contains s d) h

pub still_joined : (s t : SetBy cap_cmp) (d : Cap) → In s d → In (set.union s t) d
still_joined s t d h = set.contains-union cap_total s t d ∙ or_left (set.contains s d) (set.contains t d) h

pub still_all : (s : SetBy cap_cmp) (caps : List Cap) (d : Cap) → In s d → In (set.insert_all s caps) d
still_all s [] d h = h
still_all s (c ∷ caps) d h = still_put (set.insert_all s caps) c d (still_all s caps d h)

pub left_or_out : (s : SetBy cap_cmp) (c d : Cap) → In s d → In (set.remove s c) d ⊎ (d ≡ c)
left_or_out s c d h = by_test (eq_by_cmp cap_cmp d c) (set.contains-remove cap_total s c d)
    (λ e. cap_exact d c ((Equal-is (cap_cmp d c)).0 e))
  where
    by_test : (b : Bool) → set.contains (set.remove s c) d ≡ (not b && set.contains s d) → (b ≡ true → d ≡ c)
        → In (set.remove s c) d ⊎ (d ≡ c)
    by_test true is same = inr (same (cc))
    by_test false is same = inl (is ∙ h)
