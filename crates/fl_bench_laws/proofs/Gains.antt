-- How processes come to own what they own.
use Rattle.std.proofs.Common.{arith, suc, ◌≡◌, ◌∙◌, ◌⊎◌, inl, inr, refl, sym, ap, subst, Bool, true, false, List, [], ◌∷◌, Option, Some, None, Result, Ok, Err}
use Rattle.std.specs.Prelude.{not, ◌&&◌}
use Rattle.std.specs.FinMap as map
use Rattle.std.specs.Cmp.{Equal-is}
use Rattle.std.specs.List.{Contains}
use Rattle.std.specs.Ordering.{eq_by_cmp}
use Rattle.std.proofs.lemmas.Bool.{or_cases, false≢true}
use Rattle.fl_labels.specs.Cap.{cap_cmp}
use Rattle.fl_labels.specs.CapOrder.{cap_total, cap_exact}
use Rattle.fl_labels.specs.PidOrder.{pid_total, pid_exact}
use Rattle.fl_labels.specs.SetBy as set
use Rattle.fl_labels.specs.SetBy.{SetBy, In}
use Rattle.fl_labels.specs.declared.cap.Cap.{Cap}
use Rattle.fl_labels.specs.declared.pid.Pid.{Pid}
use Rattle.fl_ops.specs.declared.op.Op.{Op}
use Rattle.fl_ops.specs.Logins.{IsFirstLogin}
use Rattle.fl_jobs.specs.declared.job.Act.{Act}
use Rattle.fl_jobs.specs.declared.job.Act.TheVariants.{Order, Relabel, Ask, Spawn, Exit, Drop, Enter, Emit, Mail}
use Rattle.fl_jobs.specs.declared.job.Job.{Job}
use Rattle.fl_jobs.specs.declared.job.Job.TheVariants.{Proc, By, Member, Arrive}
use Rattle.fl_jobs.specs.declared.answer.Refusal.{Refusal}
use Rattle.fl_jobs.specs.declared.answer.Outcome.{Outcome}
use Rattle.fl_message.specs.declared.message.Data.{Data}
use Rattle.fl_bench.specs.Secrets.{digest_of}
use Rattle.fl_bench.specs.Process.{newborn, owns, held, is_busy, is_under_way, ordering, owning, child_of, receiving}
use Rattle.fl_bench.specs.Bench.{BenchState, IsNext, has_at, gone, born}
use Rattle.fl_bench.specs.Gifts.{given, settled, receives, finished, cancelled}
use Rattle.fl_bench.specs.Jobs.{act_checks, checks, Performs, Effect, Does, passed, failed, no_room}
use Rattle.fl_bench.specs.Gains.{OwnsAt, Gains, GainsAtEnd}
use Rattle.fl_bench.specs.declared.process.Holding.{Holding}
use Rattle.fl_bench.specs.declared.process.Holding.TheVariants.{Idle, Ordering}
use Rattle.fl_bench.specs.declared.process.Process.{Process}
use Rattle.fl_bench.specs.laws.Puts.{get_put, left_there, same_found}
use Rattle.fl_bench.specs.laws.Steps.{passed_by}

-- ---- members of sets

removed : (s : SetBy cap_cmp) (c d : Cap) → In (set.remove s c) d → In s d
removed s c d h = both (not (eq_by_cmp cap_cmp d c)) (set.contains s d) (sym (set.contains-remove cap_total s c d) ∙ h)
  where
    both : (a b : Bool) → (a && b) ≡ true → b ≡ true
    both true b e = e
    both false b e = absurd (false≢true e)

inserted : (s : SetBy cap_cmp) (c d : Cap) → In (set.insert s c) d → In s d ⊎ (d ≡ c)
inserted s c d h = elim (or_cases (eq_by_cmp cap_cmp d c) (set.contains s d) (sym (set.contains-insert cap_total s c d) ∙ h)) [
  | inl e ↦ inr (cap_exact d c ((Equal-is (cap_cmp d c)).0 e))
  | inr e ↦ inl e
]

joined : (s t : SetBy cap_cmp) (d : Cap) → In (set.union s t) d → In s d ⊎ In t d
joined s t d h = or_cases (set.contains s d) (set.contains t d) (sym (set.contains-union cap_total s t d) ∙ h)

first_item : (caps : List Cap) (c d : Cap) → d ≡ c → Contains (c ∷ caps) d
first_item caps c d e = (0, omega arith, sym e)

later_item : (caps : List Cap) (c d : Cap) → Contains caps d → Contains (c ∷ caps) d
later_item caps c d h = (suc h.0, omega (arith, h.1), h.2)

added : (s : SetBy cap_cmp) (caps : List Cap) (d : Cap) → In (set.insert_all s caps) d → In s d ⊎ Contains caps d
added s [] d h = inl h
added s (c ∷ caps) d h = elim (inserted (set.insert_all s caps) c d h) [
  | inl h ↦ elim (added s caps d h) [ inl h ↦ inl h | inr h ↦ inr (later_item caps c d h) ]
  | inr e ↦ inr (first_item caps c d e)
]

-- ---- one process

module _ (b : BenchState) (pid : Pid) (c : Cap) where
  owns_same : (after : BenchState) → after ≡ b → OwnsAt after pid c → OwnsAt b pid c
  owns_same after e = subst (λ x. OwnsAt x pid c) e

  -- at a bench where a process was put
  put_owns : (q : Pid) (new : Process) (next : BenchState) → next.processes ≡ map.insert b.processes q new → OwnsAt next pid c → OwnsAt b pid c ⊎ ((pid ≡ q) × In (owns new) c)
  put_owns q new next is o =
      let there : map.get (map.insert b.processes q new) pid ≡ Some o.process = sym (ap (λ m. map.get m pid) is) ∙ o.lives in
      elim (get_put pid_total pid_exact b.processes q new pid) [
        | inl s ↦ inr (s.0, subst (λ p. In (owns p) c) (sym (same_found s.1 there)) o.owned)
        | inr s ↦ inl (record { process = o.process; lives = sym s ∙ there; owned = o.owned })
      ]

  owned_there : (q : Pid) (p : Process) → map.get b.processes q ≡ Some p → pid ≡ q → In (owns p) c → OwnsAt b pid c
  owned_there q p there is h = record { process = p; lives = subst (λ k. map.get b.processes k ≡ Some p) (sym is) there; owned = h }

  -- the process that was put owns no more than it did
  no_more : (q : Pid) (p new : Process) → map.get b.processes q ≡ Some p → (In (owns new) c → In (owns p) c) → OwnsAt (has_at b q new) pid c → OwnsAt b pid c
  no_more q p new there less o = elim (put_owns q new (has_at b q new) refl o) [
    | inl o ↦ o
    | inr h ↦ owned_there q p there h.0 (less h.1)
  ]

  gone_owns : (q : Pid) → OwnsAt (gone b q) pid c → OwnsAt b pid c
  gone_owns q o = record { process = o.process; lives = left_there pid_total pid_exact b.processes q pid o.process o.lives; owned = o.owned }

  -- ---- jobs

  module _ (V : Op → Type 0) where
    -- what pid owns it owned before, or came to own
    abbrev pub Accounted : Job → BenchState → Type 0
    Accounted job after = OwnsAt after pid c → OwnsAt b pid c ⊎ Gains V b job pid c

    as_it_was : {job : Job} {after : BenchState} → after ≡ b → Accounted job after
    as_it_was e o = inl (owns_same _ e o)

    less : {job : Job} (q : Pid) (p new : Process) {after : BenchState} → map.get b.processes q ≡ Some p → (In (owns new) c → In (owns p) c) → after ≡ has_at b q new → Accounted job after
    less q p new there h is o = inl (no_more q p new there h (subst (λ x. OwnsAt x pid c) is o))

    proc_owned : (q : Pid) {after : BenchState} → after ≡ born b q newborn → Accounted Proc after
    proc_owned q {after} is o = elim (put_owns q newborn (born b q newborn) refl (subst (λ x. OwnsAt x pid c) is o)) [
      | inl o ↦ inl o
      | inr h ↦ absurd (false≢true (sym (set.contains-empty cap_cmp c) ∙ h.1))
    ]

    act_owned : (q : Pid) (p : Process) (act : Act) (x : Outcome) (after : BenchState) → map.get b.processes q ≡ Some p → act_checks V p act None → Performs V b q p act x after → Accounted (By q act) after
    act_owned q p (Order order) x after e h f = less q p (ordering p) e (λ m. m) f.1
    act_owned q p (Relabel side (Ok label)) x after e h f = less q p _ e (λ m. m) f.1
    act_owned q p (Relabel side (Err long)) x after e h f = absurd f
    act_owned q p (Ask d) x after e h f = as_it_was f.1
    act_owned q p (Spawn caps) x after e h f = λ o. elim (put_owns f.0 (child_of p caps) (born b f.0 (child_of p caps)) refl (subst (λ x. OwnsAt x pid c) f.3 o)) [
      | inl o ↦ inl o
      | inr m ↦ inr (Gains.born refl e (subst (IsNext b) (sym m.0) f.1) m.1 (h.1 c m.1))
    ]
    act_owned q p Exit x after e h f = λ o. inl (gone_owns q (subst (λ x. OwnsAt x pid c) f.1 o))
    act_owned q p (Drop d) x after e h f = less q p _ e (removed (owns p) d c) f.1
    act_owned q p (Enter login secret) x after e h f = λ o.
        elim (put_owns q (owning p (set.insert (owns p) f.0)) (has_at b q (owning p (set.insert (owns p) f.0))) refl (subst (λ x. OwnsAt x pid c) f.3 o)) [
          | inl o ↦ inl o
          | inr m ↦ elim (inserted (owns p) f.0 c m.1) [
            | inl had ↦ inl (owned_there q p e m.0 had)
            | inr is ↦ inr (subst (λ k. Gains V b (By k (Enter login secret)) pid c) m.0 (Gains.entered refl (subst (λ d. IsFirstLogin V login d (digest_of secret)) (sym is) f.1)))
          ]
        ]
    act_owned q p (Emit bytes) x after e h f = as_it_was f.1
    act_owned q p (Mail work) x after e h f = less q p (record p { mailbox = f.0 }) e (λ m. m) f.2

    -- the receiver owns what the message brings
    arrival_owned : (d : Data) (q : Process) {after : BenchState} → map.get b.processes d.receiver ≡ Some q → after ≡ has_at b d.receiver (receiving q d) → Accounted (Arrive d) after
    arrival_owned d q e is o = elim (put_owns d.receiver (receiving q d) (has_at b d.receiver (receiving q d)) refl (subst (λ x. OwnsAt x pid c) is o)) [
      | inl o ↦ inl o
      | inr m ↦ elim (joined (owns q) d.message.caps c m.1) [
        | inl had ↦ inl (owned_there d.receiver q e m.0 had)
        | inr came ↦ inr (Gains.arrived refl m.0 came)
      ]
    ]

    effect_owned : (job : Job) (x : Outcome) (after : BenchState) → checks V b job None → Effect V b job x after → Accounted job after
    effect_owned Proc x after h f = proc_owned f.0 f.3
    effect_owned (By q act) x after h f = act_owned q f.0 act x after f.1 (passed_by V b q act f.0 f.1 h) f.2
    effect_owned (Member root d) x after h f = as_it_was f.1
    effect_owned (Arrive d) x after h f = arrival_owned d f.0 f.1 f.3

    pub does_owned : {job : Job} {r : Result Outcome Refusal} {after : BenchState} → Does V b job r after → Accounted job after
    does_owned {job} (passed {outcome} {b' = after} h f) = effect_owned job outcome after h f
    does_owned (failed h) = as_it_was refl
    does_owned (no_room t) = as_it_was refl

  -- ---- the end of an operation

  settled_owns : (p : Process) (h : Holding) → p.owned ≡ h → (caps : List Cap) → In (held (settled h caps)) c → In (owns p) c ⊎ ((is_busy p ≡ true) × Contains caps c)
  settled_owns p (Idle owned) e caps m = inl (subst (λ h. In (held h) c) (sym e) m)
  settled_owns p (Ordering owned) e caps m = elim (added owned caps c m) [
    | inl m ↦ inl (subst (λ h. In (held h) c) (sym e) m)
    | inr m ↦ inr (ap is_under_way e, m)
  ]

  settles_owns : (maker : Pid) (caps : List Cap) (found : Option Process) → map.get b.processes maker ≡ found → OwnsAt (record b { processes = receives b.processes maker caps found }) pid c
      → OwnsAt b pid c ⊎ ((p : Process) × (map.get b.processes maker ≡ Some p) × (pid ≡ maker) × (is_busy p ≡ true) × Contains caps c)
  settles_owns maker caps None e o = inl o
  settles_owns maker caps (Some p) e o = elim (put_owns maker (record p { owned = settled p.owned caps }) (has_at b maker (record p { owned = settled p.owned caps })) refl o) [
    | inl o ↦ inl o
    | inr m ↦ elim (settled_owns p p.owned refl caps m.1) [
      | inl had ↦ inl (owned_there maker p e m.0 had)
      | inr new ↦ inr (p, e, m.0, new.0, new.1)
    ]
  ]

  pub finish_owned : (maker : Pid) (op : Op) → OwnsAt (finished b maker op) pid c → OwnsAt b pid c ⊎ GainsAtEnd b maker op pid c
  finish_owned maker op o = elim (settles_owns maker (given op) (map.get b.processes maker) refl o) [
    | inl o ↦ inl o
    | inr m ↦ inr (GainsAtEnd.made m.2 m.1 m.3 m.4)
  ]

  pub cancel_owned : (maker : Pid) → OwnsAt (cancelled b maker) pid c → OwnsAt b pid c
  cancel_owned maker o = elim (settles_owns maker [] (map.get b.processes maker) refl o) [
    | inl o ↦ o
    | inr m ↦ absurd (omega (arith, m.4.1))
  ]
