-- What leads to a capability: groups, steps and all else.
use Rattle.std.specs.Prelude.{◌≡◌, ◌↔◌, ◌⊎◌, Bool, Option, Some, None, Result, Ok, Err, OnErr, MatchOption, List, [], ◌∷◌, ◌++◌, ℕ, ◌+◌, ◌<◌, ◌≤◌, length, get_or, take, refl, is_ok}
use Rattle.std.proofs.Common.{inl, inr, sym, ap, subst, ◌∙◌}
use Rattle.std.specs.Cmp.{IsTotalOrder}
use Rattle.std.specs.FinMap.{IsAntisymmetric}
use Rattle.std.specs.List.{Contains}
use Rattle.std.specs.List.Sorted.{IsBinarySearchResult, IsSearchInRange}
use Rattle.std.specs.declared.cmp.Ordering.{Ordering}
use Rattle.std.proofs.lemmas.Bool.{false≢true}
use Rattle.std.proofs.lemmas.List.Elements.{Contains-push_cases}
use Rattle.fl_labels.specs.Arranged.{IsArranged}
use Rattle.fl_labels.specs.Found.{Tells}
use Rattle.fl_labels.specs.SetBy.{of_list}
use Rattle.fl_labels.specs.Name.{name_cmp}
use Rattle.fl_labels.specs.NameOrder.{name_total, name_exact}
use Rattle.fl_labels.specs.declared.cap.Cap.{Cap}
use Rattle.fl_labels.specs.declared.cap.Cap.TheVariants.{Use}
use Rattle.fl_labels.specs.declared.name.Name.{Name}
use Rattle.fl_labels.specs.laws.SortedVec.{answers}
use Rattle.fl_ops.specs.declared.op.Op.{Op}
use Rattle.fl_ops.specs.Registry as registry
use Rattle.fl_ops.specs.Registry.{Registry, From, IsGlobal, Listed, Reach}
use Rattle.fl_chains.specs.declared.legs.Leg.{Leg}
use Rattle.fl_chains.specs.declared.step.Step.{Step}
use Rattle.fl_chains.specs.Giver.{Alone}
use Rattle.fl_chains.specs.Leading.{AreGroupsTo, GroupLeads}
use Rattle.fl_chains.specs.Rising.{AreRising}
use Rattle.fl_chains.specs.Step.{put_op}
use Rattle.fl_chains.specs.parts.Legs.{BeginsLeg, PutsIt}
use Rattle.fl_chains.specs.parts.Search.{AreSteps, IsNearest}
use Rattle.fl_chains.proofs.Gifts.{IsGift, given_by, by_giver}
use Rattle.fl_chains.proofs.Members.{none, none_yet, push_left, push_same, more_cases, more_before, more_this, of_all, all_there, in_list, list_in}
use Rattle.fl_chains.proofs.Parting.{IsStepOf, same_step}
use Rattle.fl_chains.proofs.Searching.{by_put}

-- an item of a list is one of its members
pub item_there : {A : Type 0} (xs : List A) (i : ℕ) (x : A) → i < length xs → x ≡ get_or xs i x
    → Contains xs x
item_there xs i x within at = (i, within, sym at)

-- an error, and what holds of it
pub on_err : {T E P : Type 0} (r : Result T E) → P → OnErr r P
on_err (Ok x) p = tt
on_err (Err e) p = p

-- none of the items so far meets Q
abbrev pub NoneYet : {A : Type 0} → (A → Type 0) → List A → Type 0
NoneYet {A} Q xs = (x : A) → Contains xs x → ¬ Q x

module _ {A : Type 0} (Q : A → Type 0) (xs : List A) where
  pub none_begins : NoneYet Q (take 0 xs)
  none_begins x h = absurd (none_yet xs x h)

  pub none_more : (i : ℕ) (x : A) → i < length xs → x ≡ get_or xs i x → ¬ Q x
      → NoneYet Q (take i xs) → NoneYet Q (take (i + 1) xs)
  none_more i x within at not so_far y h = elim (more_cases xs i x within at y h) [
    | inl m ↦ so_far y m
    | inr e ↦ subst (λ z. ¬ Q z) e not
  ]

  pub none_all : (i : ℕ) → length xs ≤ i → NoneYet Q (take i xs) → NoneYet Q xs
  none_all i whole so_far x h = so_far x (all_there xs i x whole h)

-- an arranged list rises, and has the same items
module _ {K : Type 0} {R : K → K → Ordering} (total : IsTotalOrder R) (exact : IsAntisymmetric R)
  where
    pub arranged_rising : (P : K → Type 0) (xs ys : List K) → IsArranged R xs ys
        → ((x : K) → Contains xs x ↔ P x) → AreRising R P ys
    arranged_rising P xs ys h are = record {
      rise = h.rises;
      are = λ x. (
        λ m. (are x).0 (in_list total exact xs x (sym (h.same x) ∙ list_in total exact ys x m)),
        λ p. in_list total exact ys x (h.same x ∙ list_in total exact xs x ((are x).1 p)),
      );
    }

    -- a search in a rising list tells
    pub searched_rising : (P : K → Type 0) (xs : List K) (x : K) (r : Result ℕ ℕ) (b : Bool)
        → AreRising R P xs → IsSearchInRange r (length xs)
        → IsBinarySearchResult (λ y. R y x) xs r → b ≡ is_ok r → Tells b (P x)
    searched_rising P xs x r b rising within at e =
        let same = answers total exact xs (of_list xs) rising.rise refl xs refl x r within at in
        record {
          holds = λ t. (rising.are x).0 (in_list total exact xs x (same ∙ sym e ∙ t));
          fails = λ f p. false≢true
              (sym f ∙ e ∙ sym same ∙ list_in total exact xs x ((rising.are x).1 p));
        }

-- an operation puts the capability into a group
abbrev pub PutsOne : Cap → Op → Type 0
PutsOne c op = (s : Step) × (put_op s ≡ op) × (s.cap ≡ c)

module _ (c : Cap) (op : Op) (told : Option Step) (of : IsStepOf op told) where
  pub puts_this : (U : Registry) → U op → (s : Step) → told ≡ Some s → s.cap ≡ c → PutsIt U c
  puts_this U u s is e = (s, subst U (sym ((of s).0 is)) u, e)

  pub puts_other : (s : Step) → told ≡ Some s → ¬ (s.cap ≡ c) → ¬ PutsOne c op
  puts_other s is other h =
      other (ap (λ (x : Step). x.cap) (same_step (sym is ∙ (of h.0).1 h.1)) ∙ h.2)

  no_step : (s : Step) → ¬ (None ≡ Some s)
  no_step s e = absurd (cc)

  pub puts_nothing : told ≡ None → ¬ PutsOne c op
  puts_nothing is h = no_step h.0 (sym is ∙ (of h.0).1 h.1)

pub puts_never : (ops : List Op) (c : Cap) → NoneYet (PutsOne c) ops → ¬ PutsIt (Listed ops) c
puts_never ops c never h = never (put_op h.0) h.1 (h.0, refl, h.2)

-- chains to c
module _ (U : Registry) (c : Cap) where
  pub itself_leads : (from : Cap) → from ≡ c → Reach U (From from) c
  itself_leads from e = (from, refl, subst (registry.Chain U from) e registry.here)

  -- a chain is of no step, or begins with one
  first_put : {a : Cap} → registry.Chain U a c
      → (a ≡ c) ⊎ ((s : Step) × U (put_op s) × (Use s.group ≡ a) × registry.Chain U s.cap c)
  first_put registry.here = inl refl
  first_put (registry.into {op} {group} {b} u puts rest) = inr (
    record { cap = b; name = op.name; group = group },
    by_put U op.name op.body group b u puts,
    refl,
    rest,
  )

  begins : (from : Cap) → Reach U (From from) c
      → (from ≡ c) ⊎ ((s : Step) × U (put_op s) × (Use s.group ≡ from) × registry.Chain U s.cap c)
  begins from h = first_put (subst (λ a. registry.Chain U a c) h.1 h.2)

  pub only_uses_lead : (from : Cap) → ¬ (from ≡ c) → ((group : Name) → ¬ (Use group ≡ from))
      → ¬ Reach U (From from) c
  only_uses_lead from other never h = elim (begins from h)
      [ inl e ↦ other e | inr p ↦ never p.0.group p.2 ]

  step_leads : (s : Step) → U (put_op s) → registry.Chain U s.cap c → GroupLeads U c s.group
  step_leads s u rest = (Use s.group, refl, registry.into {op = put_op s} u (refl, refl) rest)

  -- the group of the use that c is, and those from whose use steps lead on
  module _ (legs : List Leg) (steps : AreSteps U c legs) where
    same_group : (g h : Name) → Use g ≡ Use h → g ≡ h
    same_group g h e = cc

    pub group_cases : (group : Name)
        → ((Use group ≡ c) ⊎ BeginsLeg legs group) ↔ GroupLeads U c group
    group_cases group = (
      λ h. elim h [
        | inl e ↦ itself_leads (Use group) e
        | inr m ↦ let p = (steps m.0.step).0 (m.0, m.1, refl) in
            subst (GroupLeads U c) m.2 (step_leads m.0.step p.0 p.1)
      ],
      λ h. elim (begins (Use group) h) [
        | inl e ↦ inl e
        | inr p ↦ let m = (steps p.0).1 (p.1, p.3) in
            inr (
              m.0,
              m.1,
              ap (λ (x : Step). x.group) m.2 ∙ same_group p.0.group group p.2,
            )
      ],
    )

    pub leg_leads : (group : Name) → BeginsLeg legs group → (g : Name) × GroupLeads U c g
    leg_leads group m = (group, (group_cases group).0 (inr m))

  pub own_leads : ((group : Name) × (Use group ≡ c)) → (g : Name) × GroupLeads U c g
  own_leads h = (h.0, itself_leads (Use h.0) h.1)

  pub put_leads : PutsIt U c → (g : Name) × GroupLeads U c g
  put_leads h = (h.0.group, step_leads h.0 h.1 (subst (registry.Chain U h.0.cap) h.2 registry.here))

  -- where nothing is put there, no step leads on
  last_put : {a : Cap} → registry.Chain U a c → (a ≡ c) ⊎ PutsIt U c
  last_put registry.here = inl refl
  last_put (registry.into {op} {group} {b} u puts rest) = inr (elim (last_put rest) [
    | inl e ↦ (
      record { cap = b; name = op.name; group = group },
      by_put U op.name op.body group b u puts,
      e,
    )
    | inr p ↦ p
  ])

  pub no_steps_lead : ¬ PutsIt U c → AreSteps U c []
  no_steps_lead never s = (
    λ h. absurd (none h.0 h.1),
    λ h. absurd (elim (last_put h.1) [ inl e ↦ never (s, h.0, e) | inr p ↦ never p ]),
  )

-- a walk that looks for no root goes along all steps
pub all_walked : (U : Registry) (c : Cap) (legs : List Leg) (away : ℕ) (root : Option Cap)
    → MatchOption root ((¬ Reach U (Contains []) c) × AreSteps U c legs)
    (λ r. IsNearest U (Contains []) c r away legs) → AreSteps U c legs
all_walked U c legs away None h = h.1
all_walked U c legs away (Some r) h = absurd (none r h.rooted)

-- one of these leads to c
module _ (U : Registry) (c : Cap) where
  pub one_way : (caps : List Cap) (a : Cap) → Contains caps a → Reach U (From a) c
      → Reach U (Contains caps) c
  one_way caps a m h = (a, m, subst (λ b. registry.Chain U b c) h.1 h.2)

  pub no_way : (caps : List Cap) → NoneYet (λ a. Reach U (From a) c) caps
      → ¬ Reach U (Contains caps) c
  no_way caps never h = never h.0 h.1 (h.0, refl, h.2)

-- the operation gives everybody what leads to c
abbrev pub GivesWay : Registry → Cap → Op → Type 0
GivesWay U c op = (a : Cap) × IsGlobal (Alone op) a × Reach U (From a) c

module _ (U : Registry) (c : Cap) (op : Op) (told : Option Cap) (gift : IsGift op told) where
  pub given_way : U op → (a : Cap) → told ≡ Some a → Reach U (From a) c → Reach U (IsGlobal U) c
  given_way u a is h =
      (a, by_giver U a op u ((gift a).0 is), subst (λ b. registry.Chain U b c) h.1 h.2)

  same_cap : (a b : Cap) → Some a ≡ Some b → a ≡ b
  same_cap a b e = cc

  pub other_given : (a : Cap) → told ≡ Some a → ¬ Reach U (From a) c → ¬ GivesWay U c op
  other_given a is other h =
      let e = same_cap a h.0 (sym is ∙ (gift h.0).1 h.1) in
      other (subst (λ b. Reach U (From b) c) (sym e) h.2)

  no_cap : (a : Cap) → ¬ (None ≡ Some a)
  no_cap a e = absurd (cc)

  pub nothing_given : told ≡ None → ¬ GivesWay U c op
  nothing_given is h = no_cap h.0 (sym is ∙ (gift h.0).1 h.1)

pub none_given : (ops : List Op) (c : Cap) → NoneYet (GivesWay (Listed ops) c) ops
    → ¬ Reach (Listed ops) (IsGlobal (Listed ops)) c
none_given ops c never h =
    let by = given_by (Listed ops) h.0 h.1 in
    never by.0 by.1 (h.0, by.2, (h.0, refl, h.2))

-- ---- groups that are added

abbrev pub AddsGroups : List Name → List Leg → List Name → Type 0
AddsGroups old legs new = (group : Name) → Contains new group
    ↔ (Contains old group ⊎ BeginsLeg legs group)

pub groups_none : (old : List Name) → AddsGroups old [] old
groups_none old group = (
  λ h. inl h,
  λ h. elim h [ inl m ↦ m | inr m ↦ absurd (none m.0 m.1) ],
)

pub groups_more : (old : List Name) (legs : List Leg) (i : ℕ) (l : Leg) → i < length legs
    → l ≡ get_or legs i l → (mid new : List Name) → AddsGroups old (take i legs) mid
    → new ≡ mid ++ l.step.group ∷ [] → AddsGroups old (take (i + 1) legs) new
groups_more old legs i l within at mid new so_far e group = (
  λ h. elim (Contains-push_cases mid l.step.group group (subst (λ x. Contains x group) e h)) [
    | inl m ↦ elim ((so_far group).0 m)
        [ inl m ↦ inl m | inr m ↦ inr (m.0, more_before legs i l within at m.0 m.1, m.2) ]
    | inr k ↦ inr (l, more_this legs i l within at l refl, k)
  ],
  λ h. subst (λ x. Contains x group) (sym e) (elim h [
    | inl m ↦ push_left mid l.step.group group ((so_far group).1 (inl m))
    | inr m ↦ elim (more_cases legs i l within at m.0 m.1) [
      | inl k ↦ push_left mid l.step.group group ((so_far group).1 (inr (m.0, k, m.2)))
      | inr k ↦ push_same mid l.step.group group (ap (λ (x : Leg). x.step.group) k ∙ m.2)
    ]
  ]),
)

pub groups_all : (old : List Name) (legs : List Leg) (i : ℕ) (new : List Name) → length legs ≤ i
    → AddsGroups old (take i legs) new → AddsGroups old legs new
groups_all old legs i new whole h group = (
  λ m. elim ((h group).0 m)
      [ inl k ↦ inl k | inr k ↦ inr (k.0, of_all legs i k.0 whole k.1, k.2) ],
  λ m. (h group).1 (elim m
      [ inl k ↦ inl k | inr k ↦ inr (k.0, all_there legs i k.0 whole k.1, k.2) ]),
)

pub one_group : (group : Name) (before made : List Name) → before ≡ [] → made ≡ before ++ group ∷ []
    → (g : Name) → Contains made g ↔ (Use g ≡ Use group)
one_group group before made empty e g = (
  λ h. elim (Contains-push_cases before group g (subst (λ l. Contains l g) e h)) [
    | inl m ↦ absurd (none g (subst (λ l. Contains l g) empty m))
    | inr s ↦ ap Use (sym s)
  ],
  λ h. subst (λ l. Contains l g) (sym e) (push_same before group g (sym (same g group h))),
)
  where
    same : (g h : Name) → Use g ≡ Use h → g ≡ h
    same g h e = cc

pub rising_groups : (ops : List Op) (c : Cap) (own all made : List Name) (legs : List Leg)
    → ((group : Name) → Contains own group ↔ (Use group ≡ c)) → AreSteps (Listed ops) c legs
    → AddsGroups own legs all → IsArranged name_cmp all made → AreGroupsTo ops c made
rising_groups ops c own all made legs is steps adds arranged =
    arranged_rising name_total name_exact (GroupLeads (Listed ops) c) all made arranged (λ group. (
      λ m. (group_cases (Listed ops) c legs steps group).0 (elim ((adds group).0 m)
          [ inl k ↦ inl ((is group).0 k) | inr k ↦ inr k ]),
      λ h. (adds group).1 (elim ((group_cases (Listed ops) c legs steps group).1 h)
          [ inl k ↦ inl ((is group).1 k) | inr k ↦ inr k ]),
    ))
