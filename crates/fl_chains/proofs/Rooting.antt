-- The capabilities with which chains begin.
use Rattle.std.specs.Prelude.{◌≡◌, ◌↔◌, ◌⊎◌, ◌||◌, Bool, true, false, Option, Some, None, List, [], ◌∷◌, ◌++◌, ℕ, ◌+◌, ◌<◌, ◌≤◌, length, get_or, take, refl}
use Rattle.std.proofs.Common.{inl, inr, sym, ap, subst, ◌∙◌}
use Rattle.std.proofs.lemmas.Bool.{false≢true}
use Rattle.std.proofs.lemmas.List.Folds.{Any-from_list_any, list_any_at}
use Rattle.std.specs.List.{Contains, list_any}
use Rattle.std.proofs.lemmas.List.Elements.{Contains-push_cases}
use Rattle.fl_labels.specs.Caps.{Caps}
use Rattle.fl_labels.specs.Found.{Tells}
use Rattle.fl_labels.specs.declared.cap.Cap.{Cap}
use Rattle.fl_ops.specs.declared.op.Op.{Op}
use Rattle.fl_ops.specs.Registry.{Registry, IsGlobal, Listed, WithGlobal, From}
use Rattle.fl_ops.specs.laws.Reaching.{global_more}
use Rattle.fl_chains.specs.Giver.{Alone}
use Rattle.fl_chains.proofs.Equal.{same, caps_same, same_caps, caps_other}
use Rattle.fl_chains.proofs.Gifts.{IsGift, same_cap, given_by, by_giver}
use Rattle.fl_chains.proofs.Members.{none, push_left, push_same, more_cases, more_before, more_this, all_there, of_all}

pub told_yes : {P : Type 0} → P → Tells true P
told_yes p = record { holds = λ _. p; fails = λ never. absurd (false≢true (sym never)) }

pub told_no : {P : Type 0} → ¬ P → Tells false P
told_no n = record { holds = λ never. absurd (false≢true never); fails = λ _. n }

-- owned, or everybody's
pub told_owner : (U : Registry) (owned : Caps) (c : Cap) (a b : Bool) → (a ≡ true → owned c)
    → (owned c → a ≡ true) → (b ≡ true) ↔ IsGlobal U c
    → Tells (a || b) (WithGlobal U owned c)
told_owner U owned c true b to from g = told_yes (inl (to refl))
told_owner U owned c false true to from g = told_yes (inr (g.0 refl))
told_owner U owned c false false to from g =
    told_no (λ h. elim h [ inl h ↦ false≢true (from h) | inr h ↦ false≢true (g.1 h) ])

pub told_among : (owned : List Cap) (c : Cap) (b : Bool) → b ≡ list_any (λ y. same y c) owned
    → Tells b (Contains owned c)
told_among owned c b e = record {
  holds = λ t. let any = Any-from_list_any (λ y. same y c) owned (sym e ∙ t) in
      subst (Contains owned) (caps_same any.4) (any.0, any.2, any.3);
  fails = λ f h. false≢true
      (sym f ∙ e ∙ list_any_at (λ y. same y c) owned h.0 c h.1 (same_caps h.2));
}

pub told_group : (c root : Cap) (b : Bool) → b ≡ same c root → Tells b (From root c)
told_group c root b e = record {
  holds = λ t. caps_same (sym e ∙ t);
  fails = λ f. caps_other (sym e ∙ f);
}

-- ---- all of them

pub Begin : Caps → List Op → List Cap → Type 0
Begin owned ops made = (c : Cap) → Contains made c ↔ (owned c ⊎ IsGlobal (Listed ops) c)

no_global : (c : Cap) → ¬ IsGlobal (Listed []) c
no_global c h = let by = given_by (Listed []) c h in none by.0 by.1

pub begin_none : (owned made : List Cap) → made ≡ owned → Begin (Contains owned) [] made
unfolding Begin
begin_none owned made e c = (
  λ h. inl (subst (λ l. Contains l c) e h),
  λ h. elim h [
    | inl h ↦ subst (λ l. Contains l c) (sym e) h
    | inr h ↦ absurd
        (no_global c h)
  ],
)

module _ (owned : Caps) (ops : List Op) (i : ℕ) (op : Op) (within : i < length ops)
    (at : op ≡ get_or ops i op) where
  before : (c : Cap) → IsGlobal (Listed (take i ops)) c → IsGlobal (Listed (take (i + 1) ops)) c
  before c h = global_more (more_before ops i op within at) c h

  this : (c : Cap) → IsGlobal (Alone op) c → IsGlobal (Listed (take (i + 1) ops)) c
  this c h = by_giver (Listed (take (i + 1) ops)) c op (more_this ops i op within at op refl) h

  cases : (c : Cap) → IsGlobal (Listed (take (i + 1) ops)) c → IsGlobal (Listed (take i ops)) c
      ⊎ IsGlobal (Alone op) c
  cases c h =
      let by = given_by (Listed (take (i + 1) ops)) c h in
      elim (more_cases ops i op within at by.0 by.1) [
        | inl m ↦ inl (by_giver (Listed (take i ops)) c by.0 m by.2)
        | inr e ↦ inr (subst (λ o. IsGlobal (Alone o) c) (sym e) by.2)
      ]

  pub begin_gift : (made new : List Cap) (told : Option Cap) (given : Cap) → IsGift op told
      → told ≡ Some given → new ≡ made ++ given ∷ []
      → Begin owned (take i ops) made → Begin owned (take (i + 1) ops) new
  unfolding Begin
  begin_gift made new told given gift is e so_far c = (
    λ h. elim (Contains-push_cases made given c (subst (λ l. Contains l c) e h)) [
      | inl m ↦ elim ((so_far c).0 m) [ inl k ↦ inl k | inr g ↦ inr (before c g) ]
      | inr s ↦ inr (this c ((gift c).0 (is ∙ ap Some s)))
    ],
    λ h. subst (λ l. Contains l c) (sym e) (elim h [
      | inl k ↦ push_left made given c ((so_far c).1 (inl k))
      | inr g ↦ elim (cases c g) [
        | inl g ↦ push_left made given c ((so_far c).1 (inr g))
        | inr g ↦ push_same made given c (same_cap (sym is ∙ (gift c).1 g))
      ]
    ]),
  )

  no_cap : {c : Cap} → ¬ (None ≡ Some c)
  no_cap e = absurd (cc)

  pub begin_other : (made : List Cap) (told : Option Cap) → IsGift op told → told ≡ None
      → Begin owned (take i ops) made → Begin owned (take (i + 1) ops) made
  unfolding Begin
  begin_other made told gift is so_far c = (
    λ h. elim ((so_far c).0 h) [ inl k ↦ inl k | inr g ↦ inr (before c g) ],
    λ h. (so_far c).1 (elim h [
      | inl k ↦ inl k
      | inr g ↦ elim (cases c g) [ inl g ↦ inr g | inr g ↦ absurd (no_cap (sym is ∙ (gift c).1 g)) ]
    ]),
  )

pub begin_all : (owned : Caps) (ops : List Op) (i : ℕ) (made : List Cap) → length ops ≤ i
    → Begin owned (take i ops) made
    → (c : Cap) → Contains made c ↔ WithGlobal (Listed ops) owned c
unfolding Begin
begin_all owned ops i made whole so_far c = (
  λ h. elim ((so_far c).0 h) [
    | inl k ↦ inl k
    | inr g ↦ inr
        (global_more (λ o m. of_all ops i o whole m) c g)
  ],
  λ h. (so_far c).1 (elim h [
    | inl k ↦ inl k
    | inr g ↦ inr
        (global_more (λ o m. all_there ops i o whole m) c g)
  ]),
)

pub one_root : (root : Cap) (before made : List Cap) → before ≡ [] → made ≡ before ++ root ∷ []
    → (c : Cap) → Contains made c ↔ From root c
one_root root before made empty e c = (
  λ h. elim (Contains-push_cases before root c (subst (λ l. Contains l c) e h)) [
    | inl m ↦ absurd (none c (subst (λ l. Contains l c) empty m))
    | inr s ↦ sym s
  ],
  λ h. subst (λ l. Contains l c) (sym e) (push_same before root c (sym h)),
)
