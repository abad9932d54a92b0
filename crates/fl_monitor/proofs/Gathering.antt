-- What is gathered of what is wanting.
use Rattle.std.proofs.Common.{◌≡◌, ◌⊎◌, inl, inr, refl, sym, ap, subst, ◌∙◌, ℕ, ◌+◌, ◌<◌, ◌≤◌, arith, zero, suc, Bool, true, false, ◌||◌, List, [], ◌∷◌, length, get_or, drop, Ordering, Result, Ok, Err, OnOk, OnErr}
use Rattle.std.specs.Prelude.{◌↔◌}
use Rattle.std.specs.Cmp.{IsTotalOrder, Equal-is, tied_itself}
use Rattle.std.specs.FinMap.{IsAntisymmetric}
use Rattle.std.specs.Ordering.{eq_by_cmp, is_eq}
use Rattle.std.proofs.lemmas.Bool.{or_cases, false≢true}
use Rattle.std.proofs.lemmas.List.{drop_more}
use Rattle.fl_labels.specs.Cap.{cap_cmp}
use Rattle.fl_labels.specs.CapOrder.{cap_total, cap_exact}
use Rattle.fl_labels.specs.Caps.{Caps}
use Rattle.fl_labels.specs.Name.{name_cmp}
use Rattle.fl_labels.specs.NameOrder.{name_total, name_exact}
use Rattle.fl_labels.specs.SetBy.{SetBy, In, IsMissing, contains, insert, empty, of_list, contains-insert, contains-empty, members, of_list-members}
use Rattle.fl_labels.specs.declared.cap.Cap.{Cap}
use Rattle.fl_labels.specs.declared.cap.Cap.TheVariants as caps
use Rattle.fl_labels.specs.declared.name.Name.{Name}
use Rattle.fl_rules.specs.Safety.{Takes}
use Rattle.fl_bench.specs.Foresight.{Both}
use Rattle.fl_monitor.specs.declared.wanting.Sign.{Sign}
use Rattle.fl_monitor.specs.declared.wanting.Sign.TheVariants.{Plus, Minus}
use Rattle.fl_monitor.specs.parts.Gathers.{Gathers, IsLacking, OfMissing, signed}

-- what follows from what holds of a result
pub err_then : {T E P Q : Type 0} (r : Result T E) → OnErr r P → (P → Q) → OnErr r Q
err_then (Ok x) p f = tt
err_then (Err e) p f = f p

pub ok_then : {T E P Q : Type 0} (r : Result T E) → OnOk r P → (P → Q) → OnOk r Q
ok_then (Ok x) p f = f p
ok_then (Err e) p f = tt

-- ---- members

module _ {K : Type 0} {R : K → K → Ordering} (o : IsTotalOrder R) (exact : IsAntisymmetric R) where
  pub is_new_or_old : (s : SetBy R) (k q : K) → In (insert s k) q → (q ≡ k) ⊎ In s q
  is_new_or_old s k q h =
      elim (or_cases _ _ (sym (contains-insert o s k q) ∙ h)) [
        | inl e ↦ inl (exact q k ((Equal-is (R q k)).0 e))
        | inr e ↦ inr e
      ]

  or_later : (b : Bool) {c : Bool} → c ≡ true → (b || c) ≡ true
  or_later true h = refl
  or_later false h = h

  pub old_is_in : (s : SetBy R) (k q : K) → In s q → In (insert s k) q
  old_is_in s k q h = contains-insert o s k q ∙ or_later (eq_by_cmp R q k) h

  pub new_is_in : (s : SetBy R) (k : K) → In (insert s k) k
  new_is_in s k =
      contains-insert o s k k ∙ ap (λ r. is_eq r || contains s k) (tied_itself o k)

  -- what a list has from this place on: this, and what it has from the next place on
  module _ (xs : List K) (i : ℕ) (x : K) (within : i < length xs) (is : x ≡ get_or xs i x) where
    rest_is : drop i xs ≡ x ∷ drop (i + 1) xs
    rest_is = drop_more xs i x within ∙ ap (λ y. y ∷ drop (i + 1) xs) (sym is)

    pub split_rest : (q : K) → In (of_list {R = R} (drop i xs)) q
        → (q ≡ x) ⊎ In (of_list {R = R} (drop (i + 1) xs)) q
    split_rest q h =
        is_new_or_old _ x q (subst (λ l. In (of_list {R = R} l) q) rest_is h)

    pub first_of_rest : In (of_list {R = R} (drop i xs)) x
    first_of_rest = subst (λ l. In (of_list {R = R} l) x) (sym rest_is) (new_is_in _ x)

    pub later_of_rest : (q : K) → In (of_list {R = R} (drop (i + 1) xs)) q
        → In (of_list {R = R} (drop i xs)) q
    later_of_rest q h =
        subst (λ l. In (of_list {R = R} l) q) (sym rest_is) (old_is_in _ x q h)

  -- from an end on it has nothing
  pub nothing_left : (xs : List K) (i : ℕ) → length xs ≤ i → (q : K)
      → ¬ In (of_list {R = R} (drop i xs)) q
  nothing_left [] zero h q m = false≢true (sym (contains-empty R q) ∙ m)
  nothing_left [] (suc i) h q m = false≢true (sym (contains-empty R q) ∙ m)
  nothing_left (x ∷ xs) zero h q m = absurd (omega (arith, h))
  nothing_left (x ∷ xs) (suc i) h q m = nothing_left xs i (omega (arith, h)) q m

  -- what is in the rest is in all
  pub rest_is_in : (xs : List K) (i : ℕ) (q : K) → In (of_list {R = R} (drop i xs)) q
      → In (of_list {R = R} xs) q
  rest_is_in xs zero q h = h
  rest_is_in [] (suc i) q h = h
  rest_is_in (x ∷ xs) (suc i) q h = old_is_in _ x q (rest_is_in xs i q h)

-- ---- what is gathered

module _ (E : Caps) where
  -- what is in effect is not added
  pub kept : (s : SetBy cap_cmp) (k : Cap) → E k → Gathers E (λ c. c ≡ k) s s
  kept s k e = record {
    each = λ c. (λ h. inl h, λ h. elim h [ inl h ↦ h | inr h ↦ absurd (h.1 (subst E (sym h.0) e)) ]);
  }

  -- and what is not in effect is
  pub added : (s : SetBy cap_cmp) (k : Cap) → ¬ E k → Gathers E (λ c. c ≡ k) s (insert s k)
  added s k n = record {
    each = λ c. (
      λ h. elim (is_new_or_old cap_total cap_exact s k c h) [
        | inl e ↦ inr (e, subst (λ c. ¬ E c) (sym e) n)
        | inr h ↦ inl h
      ],
      λ h. elim h [
        | inl h ↦ old_is_in cap_total cap_exact s k c h
        | inr h ↦ subst (In (insert s k)) (sym h.0) (new_is_in cap_total cap_exact s k)
      ],
    );
  }

  pub none_gathered : (P : Caps) (s : SetBy cap_cmp) → ((c : Cap) → ¬ P c) → Gathers E P s s
  none_gathered P s none = record {
    each = λ c. (λ h. inl h, λ h. elim h [ inl h ↦ h | inr h ↦ absurd (none c h.0) ]);
  }

  -- one after the other
  pub both_gathered : (P Q R : Caps) (s t u : SetBy cap_cmp) → Gathers E P s t → Gathers E Q t u
      → ((c : Cap) → R c → P c ⊎ Q c) → ((c : Cap) → P c → R c) → ((c : Cap) → Q c → R c)
      → Gathers E R s u
  both_gathered P Q R s t u p q split left right = record {
    each = λ c. (
      λ h. elim ((q.each c).0 h) [
        | inl h ↦ elim ((p.each c).0 h) [ inl h ↦ inl h | inr h ↦ inr (left c h.0, h.1) ]
        | inr h ↦ inr (right c h.0, h.1)
      ],
      λ h. elim h [
        | inl h ↦ (q.each c).1 (inl ((p.each c).1 (inl h)))
        | inr h ↦ elim (split c h.0) [
          | inl k ↦ (q.each c).1 (inl ((p.each c).1 (inr (k, h.1))))
          | inr k ↦ (q.each c).1 (inr (k, h.1))
        ]
      ],
    );
  }

  -- the same in other words
  pub retold : (P Q : Caps) (s t : SetBy cap_cmp) → ((c : Cap) → P c → Q c)
      → ((c : Cap) → Q c → P c) → Gathers E P s t → Gathers E Q s t
  retold P Q s t to from p = record {
    each = λ c. (
      λ h. elim ((p.each c).0 h) [ inl h ↦ inl h | inr h ↦ inr (to c h.0, h.1) ],
      λ h. elim h [
        | inl h ↦ (p.each c).1 (inl h)
        | inr h ↦ (p.each c).1 (inr (from c h.0, h.1))
      ],
    );
  }

-- what is in effect is said anew
pub under : (E F P : Caps) (s t : SetBy cap_cmp) → ((c : Cap) → E c ↔ F c) → Gathers E P s t
    → Gathers F P s t
under E F P s t same p = record {
  each = λ c. (
    λ h. elim ((p.each c).0 h) [
      | inl h ↦ inl h
      | inr h ↦ inr (h.0, λ f. h.1 ((same c).1 f))
    ],
    λ h. elim h [
      | inl h ↦ (p.each c).1 (inl h)
      | inr h ↦ (p.each c).1 (inr (h.0, λ e. h.1 ((same c).0 e)))
    ],
  );
}

-- one is lacking, said anew
pub lacks_under : (E F P Q : Caps) → ((c : Cap) → E c ↔ F c) → ((c : Cap) → P c → Q c)
    → IsLacking E P → IsLacking F Q
lacks_under E F P Q same to h = (h.0, to h.0 h.1, λ f. h.2 ((same h.0).1 f))

-- ---- along a list of capabilities

module _ (E : Caps) (caps : List Cap) (i : ℕ) where
  pub next_cap : (x : Cap) → i < length caps → x ≡ get_or caps i x → (s t u : SetBy cap_cmp)
      → Gathers E (λ k. k ≡ x) s t → Gathers E (In (of_list {R = cap_cmp} (drop (i + 1) caps))) t u
      → Gathers E (In (of_list {R = cap_cmp} (drop i caps))) s u
  next_cap x within is s t u p q =
      both_gathered E _ _ _ s t u p q (split_rest cap_total cap_exact caps i x within is)
      (λ c e. subst (In (of_list {R = cap_cmp} (drop i caps))) (sym e)
      (first_of_rest cap_total cap_exact caps i x within is))
      (later_of_rest cap_total cap_exact caps i x within is)

  pub cap_lacks : (x : Cap) → i < length caps → x ≡ get_or caps i x → ¬ E x
      → IsLacking E (In (of_list {R = cap_cmp} caps))
  cap_lacks x within is n = (
    x,
    rest_is_in cap_total cap_exact caps i x
        (first_of_rest cap_total cap_exact caps i x within is),
    n,
  )

  pub no_caps : length caps ≤ i → (s : SetBy cap_cmp)
      → Gathers E (In (of_list {R = cap_cmp} (drop i caps))) s s
  no_caps h s = none_gathered E _ s (nothing_left cap_total cap_exact caps i h)

-- all members of a set
module _ (E : Caps) (s : SetBy cap_cmp) (caps : List Cap) (are : caps ≡ members s) where
  listed : of_list {R = cap_cmp} caps ≡ s
  listed = ap of_list are ∙ of_list-members cap_total cap_exact s

  pub all_of : (t u : SetBy cap_cmp) → Gathers E (In (of_list {R = cap_cmp} caps)) t u
      → Gathers E (In s) t u
  all_of t u p = subst (λ s. Gathers E (In s) t u) listed p

  pub lack_of : IsLacking E (In (of_list {R = cap_cmp} caps)) → IsLacking E (In s)
  lack_of h = subst (λ s. IsLacking E (In s)) listed h

-- ---- of tags

module _ (sign : Sign) (other : SetBy name_cmp) where
  -- from this place on: that of this tag, and those of the tags from the next place on
  module _ (tags : List Name) (i : ℕ) (tag : Name) (within : i < length tags)
      (is : tag ≡ get_or tags i tag) where
    split_tags : contains other tag ≡ false → (c : Cap)
        → OfMissing sign (of_list (drop i tags)) other c
        → (c ≡ signed sign tag) ⊎ OfMissing sign (of_list (drop (i + 1) tags)) other c
    split_tags out c h =
        elim (split_rest name_total name_exact tags i tag within is h.0 h.2.here) [
          | inl e ↦ inl (h.1 ∙ ap (signed sign) e)
          | inr m ↦ inr (h.0, h.1, record { here = m; not_there = h.2.not_there })
        ]

    first_tag : contains other tag ≡ false
        → OfMissing sign (of_list (drop i tags)) other (signed sign tag)
    first_tag out = (
      tag,
      refl,
      record {
        here = first_of_rest name_total name_exact tags i tag within is;
        not_there = out;
      },
    )

    later_tags : (c : Cap) → OfMissing sign (of_list (drop (i + 1) tags)) other c
        → OfMissing sign (of_list (drop i tags)) other c
    later_tags c h = (
      h.0,
      h.1,
      record {
        here = later_of_rest name_total name_exact tags i tag within is h.0 h.2.here;
        not_there = h.2.not_there;
      },
    )

    -- the label has this tag
    passed_tag : contains other tag ≡ true → (c : Cap)
        → OfMissing sign (of_list (drop i tags)) other c
        → OfMissing sign (of_list (drop (i + 1) tags)) other c
    passed_tag at c h =
        elim (split_rest name_total name_exact tags i tag within is h.0 h.2.here) [
          | inl e ↦ absurd (false≢true (sym (ap (contains other) (sym e) ∙ h.2.not_there) ∙ at))
          | inr m ↦ (h.0, h.1, record { here = m; not_there = h.2.not_there })
        ]

  no_tags : (tags : List Name) (i : ℕ) → length tags ≤ i → (c : Cap)
      → ¬ OfMissing sign (of_list (drop i tags)) other c
  no_tags tags i h c m = nothing_left name_total name_exact tags i h m.0 m.2.here

  module _ (E : Caps) (tags : List Name) (i : ℕ) where
    pub next_tag : (x : Name) → i < length tags → x ≡ get_or tags i x → contains other x ≡ false
        → (s t u : SetBy cap_cmp) → Gathers E (λ k. k ≡ signed sign x) s t
        → Gathers E (OfMissing sign (of_list (drop (i + 1) tags)) other) t u
        → Gathers E (OfMissing sign (of_list (drop i tags)) other) s u
    next_tag x within is out s t u p q =
        both_gathered E _ _ _ s t u p q (split_tags tags i x within is out)
        (λ c e. subst (OfMissing sign (of_list (drop i tags)) other) (sym e)
        (first_tag tags i x within is out)) (later_tags tags i x within is)

    pub skipped_tag : (x : Name) → i < length tags → x ≡ get_or tags i x
        → contains other x ≡ true → (s u : SetBy cap_cmp)
        → Gathers E (OfMissing sign (of_list (drop (i + 1) tags)) other) s u
        → Gathers E (OfMissing sign (of_list (drop i tags)) other) s u
    skipped_tag x within is at s u q =
        retold E _ _ s u (later_tags tags i x within is) (passed_tag tags i x within is at) q

    pub tag_lacks : (x : Name) → i < length tags → x ≡ get_or tags i x
        → contains other x ≡ false → ¬ E (signed sign x)
        → IsLacking E (OfMissing sign (of_list tags) other)
    tag_lacks x within is out n = (
      signed sign x,
      (
        x,
        refl,
        record {
          here = rest_is_in name_total name_exact tags i x
              (first_of_rest name_total name_exact tags i x within is);
          not_there = out;
        },
      ),
      n,
    )

    pub all_tags : length tags ≤ i → (s : SetBy cap_cmp)
        → Gathers E (OfMissing sign (of_list (drop i tags)) other) s s
    all_tags h s = none_gathered E _ s (no_tags tags i h)

-- ---- of labels

module _ (from to : SetBy name_cmp) where
  pub gains : (c : Cap) → OfMissing Plus to from c → Takes from to c
  gains c h = subst (Takes from to) (sym h.1) h.2

  pub losses : (c : Cap) → OfMissing Minus from to c → Takes from to c
  losses c h = subst (Takes from to) (sym h.1) h.2

  pub gains_or_losses : (c : Cap) → Takes from to c
      → OfMissing Plus to from c ⊎ OfMissing Minus from to c
  gains_or_losses (caps.Plus tag) h = inl (tag, refl, h)
  gains_or_losses (caps.Minus tag) h = inr (tag, refl, h)
  gains_or_losses (caps.Use group) h = absurd h
  gains_or_losses (caps.Grow group) h = absurd h

module _ (label : SetBy name_cmp) where
  absent : (tag : Name) → contains (empty {R = name_cmp}) tag ≡ false
  absent tag = contains-empty name_cmp tag

  pub both_from : (c : Cap) → Takes empty label c → Both label c
  both_from (caps.Plus tag) h = h.here
  both_from (caps.Minus tag) h = absurd (false≢true (sym (absent tag) ∙ h.here))
  both_from (caps.Use group) h = h
  both_from (caps.Grow group) h = h

  pub both_to : (c : Cap) → Takes label empty c → Both label c
  both_to (caps.Plus tag) h = absurd (false≢true (sym (absent tag) ∙ h.here))
  both_to (caps.Minus tag) h = h.here
  both_to (caps.Use group) h = h
  both_to (caps.Grow group) h = h

  pub to_or_from : (c : Cap) → Both label c → Takes empty label c ⊎ Takes label empty c
  to_or_from (caps.Plus tag) h = inl (record { here = h; not_there = absent tag })
  to_or_from (caps.Minus tag) h = inr (record { here = h; not_there = absent tag })
  to_or_from (caps.Use group) h = inl h
  to_or_from (caps.Grow group) h = inl h
