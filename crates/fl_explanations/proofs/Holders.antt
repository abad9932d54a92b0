-- The processes of a bench that have a capability in effect, one by one.
use Rattle.std.proofs.Common.{◌≡◌, ◌∙◌, ◌+◌, ◌<◌, ◌≤◌, ap, arith, inl, inr, length, subst, sym, take, ℕ, zero, suc, List, [], ◌∷◌, ◌++◌, T, None, Some, get_or, map, refl, Global}
use Rattle.std.specs.Prelude.{◌⊎◌, Result, Ok, Err, IfOk, OnErr, Vec}
use Rattle.std.proofs.lemmas.List.{take_all, take_more}
use Rattle.std.proofs.lemmas.List.Elements.{Contains-append_left, Contains-push, Contains-push_cases}
use Rattle.std.proofs.lemmas.Map.Views.{Contains-from_any, list_any-from_Contains}
use Rattle.std.specs.Cmp.{Equal-is, eq_by_cmp_equiv}
use Rattle.std.specs.FinMap as maps
use Rattle.std.specs.declared.alloc.AllocError.{AllocError}
use Rattle.std.specs.FinMap.{is_sorted, entries_sorted}
use Rattle.std.specs.FinMap.Entries.{below_all}
use Rattle.std.specs.List.{AllByRecursion, Contains}
use Rattle.std.specs.List.Sorted.{IsStrictlySortedBy}
use Rattle.std.specs.Ordering.{eq_by_cmp}
use Rattle.std.specs.declared.cmp.Ordering.{Ordering}
use Rattle.std.specs.declared.cmp.Ordering.TheVariants.{Less}
use Rattle.fl_labels.specs.Cap.{cap_cmp}
use Rattle.fl_labels.specs.CapOrder.{cap_total, cap_exact}
use Rattle.fl_labels.specs.Pid.{pid_cmp}
use Rattle.fl_labels.specs.PidOrder.{pid_total}
use Rattle.fl_labels.specs.SetBy.{SetBy, In, contains-members, members}
use Rattle.fl_labels.specs.declared.cap.Cap.{Cap}
use Rattle.fl_labels.specs.declared.pid.Pid.{Pid}
use Rattle.fl_ops.specs.Registry.{Registry, InEffect, IsGlobal, Listed, Reach}
use Rattle.fl_ops.specs.declared.op.Op.{Op}
use Rattle.fl_bench.specs.Bench.{BenchState}
use Rattle.fl_bench.specs.Process.{owns}
use Rattle.fl_bench.specs.declared.process.Process.{Process}
use Rattle.fl_chains.specs.Rising.{AreRising}
use Rattle.fl_explanations.specs.Lines.{processes_at}
use Rattle.fl_explanations.specs.Who.{IsHolder}
use Rattle.fl_explanations.specs.parts.Owners.{IsOwner}
use Rattle.fl_explanations.proofs.Entries.{entry_found, left, less, right}

pub on_err : {T E P : Type 0} (r : Result T E) → P → OnErr r P
on_err (Ok x) p = tt
on_err (Err e) p = p

none : {A : Type 0} (x : A) → ¬ Contains [] x
none x h = absurd (omega (arith, h.1))

-- ---- lists that rise

push_all : {K : Type 0} (P : K → Type 0) (xs : List K) (y : K) → AllByRecursion P xs → P y
    → AllByRecursion P (xs ++ y ∷ [])
push_all P [] y h p = (p, tt)
push_all P (x ∷ xs) y h p = (h.0, push_all P xs y h.1 p)

all_at : {K : Type 0} (P : K → Type 0) (xs : List K) (i : ℕ) (d : K) → i < length xs
    → AllByRecursion P xs → P (get_or xs i d)
all_at P [] i d inside h = absurd (omega (arith, inside))
all_at P (x ∷ xs) zero d inside h = h.0
all_at P (x ∷ xs) (suc i) d inside h = all_at P xs i d (omega (arith, inside)) h.1

module _ {K : Type 0} (R : K → K → Ordering) where
  pub rise_push : (xs : List K) (y : K) → IsStrictlySortedBy R xs
      → ((x : K) → Contains xs x → R x y ≡ Less) → IsStrictlySortedBy R (xs ++ y ∷ [])
  unfolding IsStrictlySortedBy
  rise_push [] y h above = (tt, tt)
  rise_push (x ∷ xs) y h above = (
    push_all (λ z. R x z ≡ Less) xs y h.0 (above x (0, omega arith, refl)),
    rise_push xs y h.1 (λ z m. above z (suc m.0, omega (arith, m.1), m.2)),
  )

  -- what stands before an item of a list that rises is below it
  before : (xs : List K) (i : ℕ) (x z : K) → IsStrictlySortedBy R xs → i < length xs
      → x ≡ get_or xs i x → (k : ℕ) → k < length (take i xs) → get_or (take i xs) k z ≡ z
      → R z x ≡ Less
  unfolding IsStrictlySortedBy
  before [] i x z h inside at k within is = absurd (omega (arith, inside))
  before (y ∷ xs) zero x z h inside at k within is = absurd (omega (arith, within))
  before (y ∷ xs) (suc i) x z h inside at zero within is =
      subst (λ a. R a x ≡ Less) is
      (subst (λ b. R y b ≡ Less) (sym at)
      (all_at (λ b. R y b ≡ Less) xs i x (omega (arith, inside)) h.0))
  before (y ∷ xs) (suc i) x z h inside at (suc k) within is =
      before xs i x z h.1 (omega (arith, inside)) at k (omega (arith, within)) is

  pub below : (xs : List K) (i : ℕ) (x : K) → IsStrictlySortedBy R xs → i < length xs
      → x ≡ get_or xs i x → (z : K) → Contains (take i xs) z → R z x ≡ Less
  below xs i x h inside at z m = before xs i x z h inside at m.0 m.1 m.2

-- the keys of a map rise
module _ {K X : Type 0} (R : K → K → Ordering) where
  above : (k : K) (es : List (K × X)) → T (below_all R k es)
      → AllByRecursion (λ y. R k y ≡ Less) (map (λ e. e.0) es)
  above k [] h = tt
  above k (e ∷ es) h = (less _ (left _ _ h), above k es (right _ _ h))

  rising : (es : List (K × X)) → T (is_sorted R es) → IsStrictlySortedBy R (map (λ e. e.0) es)
  unfolding IsStrictlySortedBy
  rising [] h = tt
  rising (e ∷ es) h = (above e.0 es (left _ _ h), rising es (right _ _ h))

  pub keys_rise : (m : maps.FinMap R X) → IsStrictlySortedBy R (maps.keys m)
  keys_rise m = rising (maps.entries m) (entries_sorted m)

module _ {K X : Type 0} where
  key_at : (es : List (K × X)) (k : K) (i : ℕ) → i < length (map (λ e. e.0) es)
      → get_or (map (λ e. e.0) es) i k ≡ k → (x : X) × Contains es (k, x)
  key_at [] k i inside is = absurd (omega (arith, inside))
  key_at (e ∷ es) k zero inside is = (e.1, (0, omega arith, λ j. (is j, e.1)))
  key_at (e ∷ es) k (suc i) inside is =
      let h = key_at es k i (omega (arith, inside)) is in
      (h.0, (suc h.1.0, omega (arith, h.1.1), h.1.2))

  entry_at : (es : List (K × X)) (k : K) (x : X) (i : ℕ) → i < length es
      → get_or es i (k, x) ≡ (k, x) → Contains (map (λ e. e.0) es) k
  entry_at [] k x i inside is = absurd (omega (arith, inside))
  entry_at (e ∷ es) k x zero inside is = (0, omega arith, ap (λ (p : K × X). p.0) is)
  entry_at (e ∷ es) k x (suc i) inside is =
      let h = entry_at es k x i (omega (arith, inside)) is in
      (suc h.0, omega (arith, h.1), h.2)

  pub key_entry : (es : List (K × X)) (k : K) → Contains (map (λ e. e.0) es) k
      → (x : X) × Contains es (k, x)
  key_entry es k h = key_at es k h.0 h.1 h.2

  pub entry_key : (es : List (K × X)) (k : K) (x : X) → Contains es (k, x)
      → Contains (map (λ e. e.0) es) k
  entry_key es k x h = entry_at es k x h.0 h.1 h.2

-- ---- what is in effect

module _ (U : Registry) (c : Cap) (owned : SetBy cap_cmp) where
  pub in_effect : InEffect U (In owned) c → Reach U (In owned) c ⊎ Reach U (IsGlobal U) c
  in_effect h = elim h.1
      [ inl is ↦ inl (h.0, is, h.2) | inr given ↦ inr (h.0, given, h.2) ]

  pub by_owned : Reach U (In owned) c → InEffect U (In owned) c
  by_owned h = (h.0, inl h.1, h.2)

  pub by_global : Reach U (IsGlobal U) c → InEffect U (In owned) c
  by_global h = (h.0, inr h.1, h.2)

  pub by_members : Reach U (Contains (members owned)) c → Reach U (In owned) c
  by_members h = (
    h.0,
    contains-members owned h.0 ∙ list_any-from_Contains (eq_by_cmp_equiv cap_total) h.0
        (members owned) h.1,
    h.2,
  )

  pub to_members : Reach U (In owned) c → Reach U (Contains (members owned)) c
  to_members h = (
    h.0,
    Contains-from_any {eq = eq_by_cmp cap_cmp}
        (λ x y e. cap_exact x y ((Equal-is (cap_cmp x y)).0 e)) h.0 (members owned)
        (sym (contains-members owned h.0) ∙ h.1),
    h.2,
  )

-- ---- owners, process by process

-- those of the pids so far that own what leads there
abbrev pub AreOwners : List Op → BenchState → Cap → List Pid → List Pid → Type 0
AreOwners ops bench c pids =
    AreRising pid_cmp (λ pid. Contains pids pid × IsOwner ops bench c pid)

module _ (ops : List Op) (bench : BenchState) (c : Cap) where
  pub owners_none : AreOwners ops bench c [] []
  unfolding IsStrictlySortedBy
  owners_none = record { rise = tt; are = λ x. (λ h. absurd (none x h), λ h. absurd (none x h.0)) }

  module _ (pids : List Pid) (up : IsStrictlySortedBy pid_cmp pids) (i : ℕ) (pid : Pid)
      (inside : i < length pids) (at : pid ≡ get_or pids i pid) (made : List Pid)
      (so_far : AreOwners ops bench c (take i pids) made) where
    more_is : take (i + 1) pids ≡ take i pids ++ pid ∷ []
    more_is = take_more pids i pid inside ∙ ap (λ y. take i pids ++ y ∷ []) (sym at)

    more_before : (x : Pid) → Contains (take i pids) x → Contains (take (i + 1) pids) x
    more_before x h = subst (λ l. Contains l x) (sym more_is)
        (Contains-append_left (take i pids) (pid ∷ []) x h)

    more_cases : (x : Pid) → Contains (take (i + 1) pids) x → Contains (take i pids) x ⊎ (pid ≡ x)
    more_cases x h = Contains-push_cases (take i pids) pid x (subst (λ l. Contains l x) more_is h)

    pub owners_more : (new : List Pid) → IsOwner ops bench c pid → new ≡ made ++ pid ∷ []
        → AreOwners ops bench c (take (i + 1) pids) new
    owners_more new is e = subst (AreOwners ops bench c (take (i + 1) pids)) (sym e) (record {
      rise = rise_push pid_cmp made pid so_far.rise
          (λ x m. below pid_cmp pids i pid up inside at x ((so_far.are x).0 m).0);
      are = λ x. (
        λ m. elim (Contains-push_cases made pid x m) [
          | inl k ↦ let p = (so_far.are x).0 k in (more_before x p.0, p.1)
          | inr k ↦ (
            subst (λ l. Contains l x) (sym more_is)
                (subst (Contains (take i pids ++ pid ∷ [])) k (Contains-push (take i pids) pid)),
            subst (IsOwner ops bench c) k is,
          )
        ],
        λ p. elim (more_cases x p.0) [
          | inl k ↦ Contains-append_left made (pid ∷ []) x ((so_far.are x).1 (k, p.1))
          | inr k ↦ subst (Contains (made ++ pid ∷ [])) k (Contains-push made pid)
        ],
      );
    })

    pub owners_other : ¬ IsOwner ops bench c pid → AreOwners ops bench c (take (i + 1) pids) made
    owners_other not = record {
      rise = so_far.rise;
      are = λ x. (
        λ m. let p = (so_far.are x).0 m in (more_before x p.0, p.1),
        λ p. elim (more_cases x p.0) [
          | inl k ↦ (so_far.are x).1 (k, p.1)
          | inr k ↦ absurd (not (subst (IsOwner ops bench c) (sym k) p.1))
        ],
      );
    }

  pub owners_all : (pids : List Pid) (i : ℕ) (made : List Pid) → length pids ≤ i
      → pids ≡ maps.keys bench.processes → AreOwners ops bench c (take i pids) made
      → AreRising pid_cmp (IsOwner ops bench c) made
  owners_all pids i made whole keys h = record {
    rise = h.rise;
    are = λ x. (
      λ m. ((h.are x).0 m).1,
      λ p. (h.are x).1 (
        subst (λ l. Contains l x) (sym keys ∙ sym (take_all i pids whole))
            (entry_key (maps.entries bench.processes) x p.0 p.1),
        p,
      ),
    );
  }

  module _ (pid : Pid) (process : Process)
      (there : Contains (maps.entries bench.processes) (pid, process)) where
    pub owner_here : Reach (Listed ops) (Contains (members (owns process))) c
        → IsOwner ops bench c pid
    owner_here h = (process, there, by_members (Listed ops) c (owns process) h)

    same_process : (other : Process) → Contains (maps.entries bench.processes) (pid, other)
        → other ≡ process
    same_process other h = same (sym (entry_found pid_total bench.processes pid other h)
        ∙ entry_found pid_total bench.processes pid process there)
      where
        same : Some other ≡ Some process → other ≡ process
        same e = cc

    pub owner_not : ¬ Reach (Listed ops) (Contains (members (owns process))) c
        → ¬ IsOwner ops bench c pid
    owner_not not h = not (to_members (Listed ops) c (owns process)
        (subst (λ p. Reach (Listed ops) (In (owns p)) c) (same_process h.0 h.1) h.2))

  -- where nothing of everybody's leads there, owners alone have it in effect
  pub holders_own : (made : List Pid) → ¬ Reach (Listed ops) (IsGlobal (Listed ops)) c
      → AreRising pid_cmp (IsOwner ops bench c) made
      → AreRising pid_cmp (IsHolder ops (Some bench) c) made
  holders_own made not h = record {
    rise = h.rise;
    are = λ x. (
      λ m. let p = (h.are x).0 m in (p.0, p.1, by_owned (Listed ops) c (owns p.0) p.2),
      λ p. (h.are x).1 (
        p.0,
        p.1,
        elim (in_effect (Listed ops) c (owns p.0) p.2)
            [ inl own ↦ own | inr given ↦ absurd (not given) ],
      ),
    );
  }

  -- and else all processes
  pub holders_all : (pids : List Pid) → pids ≡ maps.keys bench.processes
      → Reach (Listed ops) (IsGlobal (Listed ops)) c
      → AreRising pid_cmp (IsHolder ops (Some bench) c) pids
  holders_all pids keys given = subst (AreRising pid_cmp (IsHolder ops (Some bench) c)) (sym keys)
      (record {
        rise = keys_rise pid_cmp bench.processes;
        are = λ x. (
          λ m. let p = key_entry (maps.entries bench.processes) x m in
              (p.0, p.1, by_global (Listed ops) c (owns p.0) given),
          λ p. entry_key (maps.entries bench.processes) x p.0 p.1,
        );
      })

-- as they are given
pub holders_found : (ops : List Op) (bench : BenchState) (c : Cap)
    → ¬ Reach (Listed ops) (IsGlobal (Listed ops)) c → (r : Result (Vec Pid Global) AllocError)
    → IfOk r (λ made. AreRising pid_cmp (IsOwner ops bench c) made.items)
    → IfOk r (λ made. AreRising pid_cmp (IsHolder ops (Some bench) c) made.items)
holders_found ops bench c not (Ok made) h = holders_own ops bench c made.items not h
holders_found ops bench c not (Err e) h = tt

pub some_there : (bench : BenchState) → ¬ (maps.keys bench.processes ≡ [])
    → ¬ (processes_at (Some bench) ≡ [])
some_there bench some empty = some (ap (map (λ (it : Pid × Process). it.0)) empty)

pub some_owner : (bench : BenchState) (pids : List Pid) → pids ≡ maps.keys bench.processes
    → (r : Result (Vec Pid Global) AllocError) → OnErr r (¬ (pids ≡ []))
    → OnErr r (¬ (processes_at (Some bench) ≡ []))
some_owner bench pids is (Ok made) h = tt
some_owner bench pids is (Err e) h = some_there bench (λ empty. h (is ∙ empty))

pub holders_none : (ops : List Op) (c : Cap) (made : List Pid) → made ≡ []
    → AreRising pid_cmp (IsHolder ops None c) made
unfolding IsStrictlySortedBy
holders_none ops c made empty = subst (AreRising pid_cmp (IsHolder ops None c)) (sym empty)
    (record { rise = tt; are = λ x. (λ h. absurd (none x h), λ h. absurd (none (x, h.0) h.1)) })
