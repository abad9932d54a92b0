-- Operations parted by where they lead, one by one.
use Rattle.std.specs.Prelude.{◌≡◌, ◌↔◌, ◌⊎◌, Option, Some, None, Result, Ok, Err, IfOk, List, [], ◌∷◌, ◌++◌, ℕ, ◌+◌, ◌<◌, ◌≤◌, length, get_or, take, refl}
use Rattle.std.proofs.Common.{inl, inr, sym, ap, subst, ◌∙◌, arith, length-append}
use Rattle.std.specs.List.{Contains}
use Rattle.std.specs.declared.alloc.AllocError.{AllocError}
use Rattle.std.proofs.lemmas.List.{length-take-le, take_all}
use Rattle.std.proofs.lemmas.List.Elements.{Contains-push_cases}
use Rattle.fl_labels.specs.Caps.{Caps}
use Rattle.fl_labels.specs.declared.cap.Cap.{Cap}
use Rattle.fl_labels.specs.declared.cap.Cap.TheVariants.{Use}
use Rattle.fl_labels.specs.Cap.{cap_cmp}
use Rattle.fl_labels.specs.SetBy.{SetBy, In, of_list}
use Rattle.fl_ops.specs.declared.op.Op.{Op}
use Rattle.fl_chains.specs.declared.step.Step.{Step}
use Rattle.fl_chains.specs.declared.legs.Leg.{Leg}
use Rattle.fl_chains.specs.Step.{put_op}
use Rattle.fl_chains.specs.parts.Legs.{AreParts, StartsIn}
use Rattle.fl_chains.proofs.Members.{none, push_left, push_same, more_cases, more_before, more_this, all_there, of_all, in_made, made_in}

-- the step that rests on an operation, as it is told
abbrev pub IsStepOf : Op → Option Step → Type 0
IsStepOf op told = (s : Step) → (told ≡ Some s) ↔ (put_op s ≡ op)

-- where it leads to one of these
abbrev pub IsStepTo : Caps → Op → Option Step → Type 0
IsStepTo near op told = (s : Step) → (told ≡ Some s) ↔ ((put_op s ≡ op) × near s.cap)

no_step : {s : Step} → ¬ (None ≡ Some s)
no_step e = absurd (cc)

step_or : Step → Option Step → Step
step_or d None = d
step_or d (Some s) = s

pub same_step : {s t : Step} → Some s ≡ Some t → s ≡ t
unfolding step_or
same_step {s} e = ap (step_or s) e

module _ (near : Caps) (op : Op) (told : Option Step) (of : IsStepOf op told) where
  pub no_step_to : told ≡ None → IsStepTo near op None
  no_step_to is s = (λ e. absurd (no_step e), λ h. absurd (no_step (sym is ∙ (of s).1 h.0)))

  pub step_near : (t : Step) → told ≡ Some t → near t.cap → IsStepTo near op (Some t)
  step_near t is h s = (
    λ e. ((of s).0 (is ∙ e), subst (λ (x : Step). near x.cap) (same_step e) h),
    λ p. sym is ∙ (of s).1 p.0,
  )

  pub step_far : (t : Step) → told ≡ Some t → ¬ near t.cap → IsStepTo near op None
  step_far t is far s = (
    λ e. absurd (no_step e),
    λ p. absurd (far (subst (λ (x : Step). near x.cap) (same_step (sym ((of s).1 p.0) ∙ is)) p.1)),
  )

-- ---- the parts

pub parts_none : (near : Caps) → AreParts [] near [] []
parts_none near = record {
  steps = λ s. (λ h. absurd (none s h), λ h. absurd (none (put_op s) h.0));
  kept = λ op h. h;
  whole = λ op h. absurd (none op h);
  counts = refl;
}

module _ (near : Caps) (ops : List Op) (i : ℕ) (op : Op) (within : i < length ops)
    (at : op ≡ get_or ops i op)
    (taken : List Step) (rest : List Op) (so_far : AreParts (take i ops) near taken rest) where
  counted : (n : ℕ) → n ≡ length taken + length rest + 1 → n ≡ length (take (i + 1) ops)
  counted n e =
      let c = so_far.counts in
      let a = length-take-le i ops (omega arith) in
      let b = length-take-le (i + 1) ops (omega arith) in
      omega arith

  module _ (told : Option Step) (to : IsStepTo near op told) where
    pub parts_taken : (t : Step) → told ≡ Some t → (new : List Step) → new ≡ taken ++ t ∷ []
        → AreParts (take (i + 1) ops) near new rest
    parts_taken t is new e = subst (λ l. AreParts (take (i + 1) ops) near l rest) (sym e) (record {
      steps = λ s. (
        λ h. elim (Contains-push_cases taken t s h) [
          | inl m ↦ let p = (so_far.steps s).0 m in
              (more_before ops i op within at (put_op s) p.0, p.1)
          | inr k ↦ let p = (to s).0 (is ∙ ap Some k) in
              (more_this ops i op within at (put_op s) (sym p.0), p.1)
        ],
        λ p. elim (more_cases ops i op within at (put_op s) p.0) [
          | inl m ↦ push_left taken t s ((so_far.steps s).1 (m, p.1))
          | inr k ↦ push_same taken t s (same_step (sym is ∙ (to s).1 (sym k, p.1)))
        ],
      );
      kept = λ o h. more_before ops i op within at o (so_far.kept o h);
      whole = λ o h. elim (more_cases ops i op within at o h) [
        | inl m ↦ so_far.whole o m
        | inr k ↦ let p = (to t).0 is in inr (t, p.0 ∙ k, p.1)
      ];
      counts = counted (length (taken ++ t ∷ []) + length rest)
          (omega (arith, length-append taken (t ∷ [])));
    })

    pub parts_left : told ≡ None → (new : List Op) → new ≡ rest ++ op ∷ []
        → AreParts (take (i + 1) ops) near taken new
    parts_left is new e = subst (AreParts (take (i + 1) ops) near taken) (sym e) (record {
      steps = λ s. (
        λ h. let p = (so_far.steps s).0 h in (more_before ops i op within at (put_op s) p.0, p.1),
        λ p. elim (more_cases ops i op within at (put_op s) p.0) [
          | inl m ↦ (so_far.steps s).1 (m, p.1)
          | inr k ↦ absurd (no_step (sym is ∙ (to s).1 (sym k, p.1)))
        ],
      );
      kept = λ o h. elim (Contains-push_cases rest op o h) [
        | inl m ↦ more_before ops i op within at o (so_far.kept o m)
        | inr k ↦ more_this ops i op within at o k
      ];
      whole = λ o h. elim (more_cases ops i op within at o h) [
        | inl m ↦ elim (so_far.whole o m) [ inl k ↦ inl (push_left rest op o k) | inr k ↦ inr k ]
        | inr k ↦ inl (push_same rest op o k)
      ];
      counts = counted (length taken + length (rest ++ op ∷ []))
          (omega (arith, length-append rest (op ∷ [])));
    })

pub parts_all : (near : Caps) (ops : List Op) (i : ℕ) (taken : List Step) (rest : List Op)
    → length ops ≤ i → AreParts (take i ops) near taken rest
    → AreParts ops near taken rest
parts_all near ops i taken rest whole h =
    subst (λ l. AreParts l near taken rest) (take_all i ops whole) h

-- ---- where steps start

abbrev pub Starts : List Step → List Cap → Type 0
Starts steps caps = (c : Cap) → Contains caps c ↔ StartsIn steps c

pub starts_none : Starts [] []
starts_none c = (λ h. absurd (none c h), λ h. absurd (none h.0 h.1))

pub starts_more : (steps : List Step) (i : ℕ) (s : Step) → i < length steps → s ≡ get_or steps i s
    → (caps new : List Cap) → Starts (take i steps) caps
    → new ≡ caps ++ Use s.group ∷ [] → Starts (take (i + 1) steps) new
starts_more steps i s within at caps new so_far e c = (
  λ h. elim (Contains-push_cases caps (Use s.group) c (subst (λ l. Contains l c) e h)) [
    | inl m ↦ let p = (so_far c).0 m in (p.0, more_before steps i s within at p.0 p.1, p.2)
    | inr k ↦ (s, more_this steps i s within at s refl, k)
  ],
  λ p. subst (λ l. Contains l c) (sym e) (elim (more_cases steps i s within at p.0 p.1) [
    | inl m ↦ push_left caps (Use s.group) c ((so_far c).1 (p.0, m, p.2))
    | inr k ↦ push_same caps (Use s.group) c (ap (λ (x : Step). Use x.group) k ∙ p.2)
  ]),
)

pub starts_all : (steps : List Step) (i : ℕ) (caps : List Cap) → length steps ≤ i
    → Starts (take i steps) caps → (made : SetBy cap_cmp)
    → made ≡ of_list caps → (c : Cap) → In made c ↔ StartsIn steps c
starts_all steps i caps whole so_far made e c = (
  λ h. let p = (so_far c).0 (in_made caps c (subst (λ s. In s c) e h)) in
      (p.0, of_all steps i p.0 whole p.1, p.2),
  λ p. subst (λ s. In s c) (sym e)
      (made_in caps c ((so_far c).1 (p.0, all_there steps i p.0 whole p.1, p.2))),
)

pub starts_made : (steps : List Step) (i : ℕ) (caps : List Cap) → length steps ≤ i
    → Starts (take i steps) caps
    → (r : Result (SetBy cap_cmp) AllocError) → IfOk r (λ made. made ≡ of_list caps)
    → IfOk r (λ made. (c : Cap) → In made c ↔ StartsIn steps c)
starts_made steps i caps whole so_far (Ok made) e = starts_all steps i caps whole so_far made e
starts_made steps i caps whole so_far (Err error) e = tt

-- ---- legs that are added

abbrev pub Adds : List Leg → List Step → ℕ → List Leg → Type 0
Adds old steps left new = (l : Leg) → Contains new l
    ↔ (Contains old l ⊎ (Contains steps l.step × (l.left ≡ left)))

pub adds_none : (old : List Leg) (left : ℕ) → Adds old [] left old
adds_none old left l = (λ h. inl h, λ h. elim h [ inl h ↦ h | inr h ↦ absurd (none l.step h.0) ])

pub adds_more : (old : List Leg) (left : ℕ) (steps : List Step) (i : ℕ) (s : Step)
    → i < length steps → s ≡ get_or steps i s → (mid new : List Leg)
    → Adds old (take i steps) left mid → new ≡ mid ++ (record { step = s; left = left }) ∷ []
    → Adds old (take (i + 1) steps) left new
adds_more old left steps i s within at mid new so_far e l = (
  λ h. elim (Contains-push_cases mid this l (subst (λ x. Contains x l) e h)) [
    | inl m ↦ elim ((so_far l).0 m)
        [ inl m ↦ inl m | inr m ↦ inr (more_before steps i s within at l.step m.0, m.1) ]
    | inr k ↦ inr (
      more_this steps i s within at l.step (ap (λ (x : Leg). x.step) k),
      ap
          (λ (x : Leg). x.left) (sym k),
    )
  ],
  λ h. subst (λ x. Contains x l) (sym e) (elim h [
    | inl m ↦ push_left mid this l ((so_far l).1 (inl m))
    | inr m ↦ elim (more_cases steps i s within at l.step m.0) [
      | inl k ↦ push_left mid this l ((so_far l).1 (inr (k, m.1)))
      | inr k ↦ push_same mid this l (λ j. record { step = k j; left = sym m.1 j })
    ]
  ]),
)
  where
    this : Leg
    this = record { step = s; left = left }

pub adds_all : (old : List Leg) (left : ℕ) (steps : List Step) (i : ℕ) (new : List Leg)
    → length steps ≤ i → Adds old (take i steps) left new → Adds old steps left new
adds_all old left steps i new whole h = subst (λ l. Adds old l left new) (take_all i steps whole) h
