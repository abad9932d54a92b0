-- A search backwards from a capability, step by step.
use Rattle.std.specs.Prelude.{◌≡◌, ◌↔◌, ◌⊎◌, ◌+◌, ◌≤◌, ◌||◌, ℕ, zero, suc, List, [], ◌∷◌, length, refl}
use Rattle.std.proofs.Common.{inl, inr, sym, ap, subst, ◌∙◌, arith}
use Rattle.std.proofs.lemmas.Bool.{cases_lt, or_cases, false≢true}
use Rattle.std.specs.Cmp.{Equal-is, eq_by_cmp_equiv}
use Rattle.std.specs.List.{Contains}
use Rattle.std.specs.Ordering.{eq_by_cmp}
use Rattle.fl_labels.specs.Caps.{Caps}
use Rattle.fl_labels.specs.declared.name.Name.{Name}
use Rattle.fl_labels.specs.declared.cap.Cap.{Cap}
use Rattle.fl_labels.specs.declared.cap.Cap.TheVariants.{Use}
use Rattle.fl_labels.specs.Cap.{cap_cmp}
use Rattle.fl_labels.specs.CapOrder.{cap_total, cap_exact}
use Rattle.fl_labels.specs.SetBy.{SetBy, In, empty, insert, contains, contains-empty, contains-insert}
use Rattle.fl_ops.specs.declared.op.Op.{Op}
use Rattle.fl_ops.specs.declared.op.Body.{Body}
use Rattle.fl_ops.specs.declared.op.Body.TheVariants.{MakeTag, MakeGroup, Put, MakeLogin, Open}
use Rattle.fl_ops.specs.Registry.{Registry, Puts, Reach}
use Rattle.fl_ops.specs.Registry as registry
use Rattle.fl_chains.specs.declared.step.Step.{Step}
use Rattle.fl_chains.specs.declared.legs.Leg.{Leg}
use Rattle.fl_chains.specs.Step.{put_op}
use Rattle.fl_chains.specs.Least.{IsLeast}
use Rattle.fl_chains.specs.Chain.{ChainBy, here, step}
use Rattle.fl_chains.specs.parts.Legs.{AreParts, StartsIn}
use Rattle.fl_chains.specs.parts.Search.{IsAway, IsNearer, AreLegs, AreSteps, IsNearest}
use Rattle.fl_chains.proofs.Members.{none}
use Rattle.fl_chains.proofs.Parting.{Adds}

-- operations say what rests on them
pub same_put : (s t : Step) → put_op s ≡ put_op t → s ≡ t
same_put s t e =
    let name = ap (λ (o : Op). o.name) e in
    let parts = body_parts s.group t.group s.cap t.cap (ap (λ (o : Op). o.body) e) in
    λ i. record { cap = parts.1 i; name = name i; group = parts.0 i }
  where
    body_parts : (g h : Name) (c d : Cap) → Put g c ≡ Put h d → (g ≡ h) × (c ≡ d)
    body_parts g h c d e = (cc, cc)

-- the steps of a chain
pub by_put : (U : Registry) (name : Name) (body : Body) (group : Name) (b : Cap)
    → U (record { name = name; body = body }) → Puts body group b
    → U (put_op (record { cap = b; name = name; group = group }))
by_put U name (MakeTag policy) group b u h = absurd h
by_put U name MakeGroup group b u h = absurd h
by_put U name (Put into what) group b u h =
    subst U (λ i. record { name = name; body = Put (h.0 i) (h.1 i) }) u
by_put U name (MakeLogin what digest) group b u h = absurd h
by_put U name (Open opened) group b u h = absurd h

pub with_steps : {U : Registry} {a c : Cap} → registry.Chain U a c → (steps : List Step)
    × ChainBy U a steps c
with_steps registry.here = ([], here)
with_steps {U} (registry.into {op} {group} {b} u puts rest) =
    let on = with_steps rest in
    let s : Step = record { cap = b; name = op.name; group = group } in
    (s ∷ on.0, step {s = s} (by_put U op.name op.body group b u puts) on.1)

pub without_steps : {U : Registry} {a c : Cap} {steps : List Step} → ChainBy U a steps c
    → registry.Chain U a c
without_steps here = registry.here
without_steps (step {s} u rest) = registry.into {op = put_op s} u (refl, refl) (without_steps rest)

pub no_steps : {U : Registry} {b c : Cap} {steps : List Step} → ChainBy U b steps c
    → length steps ≡ 0 → b ≡ c
no_steps here e = refl
no_steps (step u rest) e = absurd (omega (arith, e))

-- what rests on steps to one capability
module _ (U : Registry) (c : Cap) where
  pub away_on : (n : ℕ) (s : Step) → U (put_op s) → IsAway U c n s.cap
      → IsAway U c (n + 1) (Use s.group)
  away_on n s u h = record {
    steps = s ∷ h.steps;
    leads = step u h.leads;
    count = let e = h.count in omega arith;
  }

  pub nearer_on : (n : ℕ) (s : Step) → U (put_op s) → IsNearer U c n s.cap
      → IsNearer U c (n + 1) (Use s.group)
  nearer_on n s u h = record {
    steps = s ∷ h.steps;
    leads = step u h.leads;
    fewer = let e = h.fewer in omega arith;
  }

  -- the last capability is no step away, and no other one is
  pub itself_away : IsAway U c 0 c
  itself_away = record { steps = []; leads = here; count = refl }

  pub away_itself : (b : Cap) → IsAway U c 0 b → b ≡ c
  away_itself b h = no_steps h.leads h.count

  -- one that is more steps away goes on by a step
  first_step : (n : ℕ) (P : Cap → Type 0)
      → ((s : Step) → U (put_op s) → IsAway U c n s.cap → P (Use s.group))
      → {b : Cap} {steps : List Step} → ChainBy U b steps c → length steps ≡ n + 1 → P b
  first_step n P on here e = absurd (omega (arith, e))
  first_step n P on (step {s} {steps} u rest) e =
      on s u (record { steps = steps; leads = rest; count = omega (arith, e) })

  pub by_first : (n : ℕ) (P : Cap → Type 0)
      → ((s : Step) → U (put_op s) → IsAway U c n s.cap → P (Use s.group))
      → (b : Cap) → IsAway U c (n + 1) b → P b
  by_first n P on b h = first_step n P on h.leads h.count

-- the capabilities that are so many steps away, but for some that are nearer
pub record IsLevel (U : Registry) (c : Cap) (n : ℕ) (near : Caps) : Type 0 where
  pub sound : (b : Cap) → near b → IsAway U c n b
  pub all : (b : Cap) → IsAway U c n b → near b ⊎ IsNearer U c n b

-- the operations but for those that lead to what is nearer
pub record IsLeft (U : Registry) (c : Cap) (n : ℕ) (rest : List Op) : Type 0 where
  pub kept : (op : Op) → Contains rest op → U op
  pub whole : (s : Step) → U (put_op s) → Contains rest (put_op s) ⊎ IsNearer U c n s.cap

pub record IsSearched (U : Registry) (roots : Caps) (c : Cap) (n : ℕ) (legs : List Leg)
    (rest : List Op) (near : Caps) : Type 0 where
  pub level : IsLevel U c n near
  pub known : AreLegs U c n legs
  pub left : IsLeft U c n rest
  pub none_nearer : (r : Cap) → roots r → ¬ IsNearer U c n r

module _ (U : Registry) (roots : Caps) (c : Cap) where
  pub searched_none : (near : Caps) → ((b : Cap) → near b ↔ (b ≡ c)) → (legs : List Leg) → legs ≡ []
      → (rest : List Op) → ((op : Op) → Contains rest op ↔ U op)
      → IsSearched U roots c 0 legs rest near
  searched_none near is legs empty rest same = record {
    level = record {
      sound = λ b h. subst (IsAway U c 0) (sym ((is b).0 h)) (itself_away U c);
      all = λ b h. inl ((is b).1 (away_itself U c b h));
    };
    known = record {
      sound = λ l h. absurd (none l (subst (λ x. Contains x l) empty h));
      all = λ s k below u h. absurd (omega (arith, below));
    };
    left = record { kept = λ op h. (same op).0 h; whole = λ s u. inl ((same (put_op s)).1 u) };
    none_nearer = λ r h nearer. let e = nearer.fewer in absurd (omega arith);
  }

  -- the least root that is so near
  pub searched_root : (n : ℕ) (legs : List Leg) (rest : List Op) (near : Caps) (root : Cap)
      → IsSearched U roots c n legs rest near
      → IsLeast cap_cmp (λ b. roots b × near b) root → IsNearest U roots c root n legs
  searched_root n legs rest near root so_far h = record {
    rooted = h.member.0;
    so_far = so_far.level.sound root h.member.1;
    none_nearer = so_far.none_nearer;
    least = λ r is away. elim (so_far.level.all r away) [
      | inl k ↦ h.least r (is, k)
      | inr k ↦ absurd (so_far.none_nearer r is k)
    ];
    lead = so_far.known;
  }

  module _ (n : ℕ) (legs : List Leg) (rest : List Op) (near : Caps)
      (so_far : IsSearched U roots c n legs rest near) where
    module _ (no_root : (b : Cap) → ¬ (roots b × near b)) where
      none_next : (r : Cap) → roots r → ¬ IsNearer U c (n + 1) r
      none_next r h nearer = elim (cases_lt (length nearer.steps) n) [
        | inl few ↦ so_far.none_nearer r h
            (record { steps = nearer.steps; leads = nearer.leads; fewer = few })
        | inr many ↦ elim (so_far.level.all r (record {
          steps = nearer.steps;
          leads = nearer.leads;
          count = let e = nearer.fewer in omega arith;
        })) [
          | inl k ↦ no_root r (h, k)
          | inr k ↦ so_far.none_nearer r h k
        ]
      ]

      module _ (taken : List Step) (left : List Op) (parts : AreParts rest near taken left) where
        -- a step that leads to what is so near is taken, unless it leads nearer
        is_taken : (s : Step) → U (put_op s) → IsAway U c n s.cap → Contains taken s
            ⊎ IsNearer U c n s.cap
        is_taken s u h = elim (so_far.level.all s.cap h) [
          | inl k ↦ elim (so_far.left.whole s u)
              [ inl m ↦ inl ((parts.steps s).1 (m, k)) | inr m ↦ inr m ]
          | inr k ↦ inr k
        ]

        taken_rest : (s : Step) → Contains taken s → U (put_op s) × IsAway U c n s.cap
        taken_rest s h = let p = (parts.steps s).0 h in
            (so_far.left.kept (put_op s) p.0, so_far.level.sound s.cap p.1)

        next_whole : (s : Step) → U (put_op s) → Contains left (put_op s)
            ⊎ IsNearer U c (n + 1) s.cap
        next_whole s u = elim (so_far.left.whole s u) [
          | inl m ↦ elim (parts.whole (put_op s) m) [
            | inl k ↦ inl k
            | inr k ↦ inr (subst (λ (x : Step). IsNearer U c (n + 1) x.cap) (same_put k.0 s k.1)
                (nearly (so_far.level.sound k.0.cap k.2)))
          ]
          | inr m ↦ inr (wider m)
        ]
          where
            nearly : {b : Cap} → IsAway U c n b → IsNearer U c (n + 1) b
            nearly h = record {
              steps = h.steps;
              leads = h.leads;
              fewer = let e = h.count in
                  omega arith;
            }

            wider : {b : Cap} → IsNearer U c n b → IsNearer U c (n + 1) b
            wider h = record {
              steps = h.steps;
              leads = h.leads;
              fewer = let e = h.fewer in
                  omega arith;
            }

        pub searched_more : (more : List Leg) → Adds legs taken n more → (next : Caps)
            → ((b : Cap) → next b ↔ StartsIn taken b)
            → IsSearched U roots c (n + 1) more left next
        searched_more more adds next starts = record {
          level = record {
            sound = λ b h. let p = (starts b).0 h in let s = taken_rest p.0 p.1 in
                subst (IsAway U c (n + 1)) p.2 (away_on U c n p.0 s.0 s.1);
            all = by_first U c n (λ b. next b ⊎ IsNearer U c (n + 1) b)
                (λ s u h. elim (is_taken s u h) [
                  | inl m ↦ inl ((starts (Use s.group)).1 (s, m, refl))
                  | inr m ↦ inr (nearer_on U c n s u m)
                ]);
          };
          known = record {
            sound = λ l h. elim ((adds l).0 h) [
              | inl m ↦ so_far.known.sound l m
              | inr m ↦ let s = taken_rest l.step m.0 in
                  (s.0, subst (λ k. IsAway U c k l.step.cap) (sym m.1) s.1)
            ];
            all = λ s k below u h. elim (cases_lt k n) [
              | inl few ↦ elim (so_far.known.all s k few u h) [
                | inl m ↦ inl ((adds (record { step = s; left = k })).1 (inl m))
                | inr m ↦ inr m
              ]
              | inr many ↦
                  let e : n ≡ k = omega (arith, below) in
                  elim (is_taken s u (subst (λ x. IsAway U c x s.cap) (sym e) h)) [
                    | inl m ↦ inl ((adds (record { step = s; left = k })).1 (inr (m, sym e)))
                    | inr m ↦ inr (subst (λ x. IsNearer U c x s.cap) e m)
                  ]
            ];
          };
          left = record {
            kept = λ op h. so_far.left.kept op (parts.kept op h);
            whole =
                next_whole;
          };
          none_nearer = none_next;
        }

        -- where no step is taken, all that leads on is nearer
        module _ (no_more : taken ≡ []) where
          all_nearer : {b : Cap} {steps : List Step} → ChainBy U b steps c → IsNearer U c (n + 1) b
          all_nearer here = record { steps = []; leads = here; fewer = omega arith }
          all_nearer (step {s} u rest) = on s u (all_nearer rest)
            where
              on : (s : Step) → U (put_op s) → IsNearer U c (n + 1) s.cap
                  → IsNearer U c (n + 1) (Use s.group)
              on s u h = elim (cases_lt (length h.steps) n) [
                | inl few ↦ nearer_on U c n s u
                    (record { steps = h.steps; leads = h.leads; fewer = few })
                | inr many ↦ elim (is_taken s u (record {
                  steps = h.steps;
                  leads = h.leads;
                  count = let e = h.fewer in omega arith;
                })) [
                  | inl m ↦ absurd (none s (subst (λ x. Contains x s) no_more m))
                  | inr m ↦ nearer_on U c n s u m
                ]
              ]

          -- a step that leads to what is nearer is among the legs
          is_known : (k : ℕ) → k ≤ n → (s : Step) → U (put_op s) → IsNearer U c k s.cap
              → (l : Leg) × Contains legs l × (l.step ≡ s)
          is_known zero below s u h = let e = h.fewer in absurd (omega arith)
          is_known (suc k) below s u h = elim (cases_lt (length h.steps) k) [
            | inl few ↦ is_known k (omega (arith, below)) s u
                (record { steps = h.steps; leads = h.leads; fewer = few })
            | inr many ↦ elim (so_far.known.all s k (omega (arith, below)) u (record {
              steps = h.steps;
              leads = h.leads;
              count = let e = h.fewer in omega arith;
            })) [
              | inl m ↦ (record { step = s; left = k }, m, refl)
              | inr m ↦ is_known k (omega (arith, below)) s u m
            ]
          ]

          -- and a step that leads on at all does
          is_there : (s : Step) → U (put_op s) → IsNearer U c (n + 1) s.cap
              → (l : Leg) × Contains legs l × (l.step ≡ s)
          is_there s u h = elim (cases_lt (length h.steps) n) [
            | inl few ↦ is_known n (omega arith) s u
                (record { steps = h.steps; leads = h.leads; fewer = few })
            | inr many ↦ elim (is_taken s u (record {
              steps = h.steps;
              leads = h.leads;
              count = let e = h.fewer in omega arith;
            })) [
              | inl m ↦ absurd (none s (subst (λ x. Contains x s) no_more m))
              | inr m ↦ is_known n (omega arith) s u m
            ]
          ]

          all_steps : AreSteps U c legs
          all_steps s = (
            λ h. let p = so_far.known.sound h.0 h.1 in
                subst (λ (x : Step). U (put_op x) × registry.Chain U x.cap c) h.2
                (p.0, without_steps p.1.leads),
            λ h. is_there s h.0 (let by = with_steps h.1 in all_nearer by.1),
          )

          pub searched_all : (¬ Reach U roots c) × AreSteps U c legs
          searched_all = (
            λ h. let by = with_steps h.2 in none_next h.0 h.1 (all_nearer by.1),
            all_steps,
          )

-- a set of one capability
pub only_itself : (c : Cap) (old near : SetBy cap_cmp) → old ≡ empty → near ≡ insert old c
    → (b : Cap) → In near b ↔ (b ≡ c)
only_itself c old near none is b = (
  λ h. cap_exact b c ((Equal-is (cap_cmp b c)).0 (elim (or_cases _ _ (sym (held b) ∙ h)) [
    | inl e ↦ e
    | inr e ↦ absurd (false≢true (sym (ap (λ s. contains s b) none ∙ contains-empty cap_cmp b) ∙ e))
  ])),
  λ e. held b ∙ ap (λ t. t || contains old b)
      (ap (λ x. eq_by_cmp cap_cmp x c) e ∙ (eq_by_cmp_equiv cap_total).refl c),
)
  where
    held : (b : Cap) → contains near b ≡ (eq_by_cmp cap_cmp b c || contains old b)
    held b = ap (λ s. contains s b) is ∙ contains-insert cap_total old c b
