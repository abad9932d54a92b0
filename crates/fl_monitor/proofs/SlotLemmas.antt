-- What the slots of a map by pids hold, where a search ends, and what a write, an insert and the
-- packing leave.
use Rattle.std.proofs.Common.{arith, ◌≡◌, ℕ, zero, suc, ◌<◌, ◌≤◌, Bool, true, false, cond, List, [], ◌∷◌, length, get_or, set, refl, sym, ap, subst, ◌∙◌, Option, Some, None, Result, Ok, Err, IfOk, IfErr, inl, inr, Ordering, Less, Equal, Greater, ◌-◌, slice_get}
use Rattle.std.proofs.lemmas.Bool.{cases_lt, false≢true, or_parts, or_from}
use Rattle.std.proofs.lemmas.List.{set-get_or}
use Rattle.std.proofs.lemmas.Option.{slice_get_within, get_or_from_slice_get}
use Rattle.std.proofs.lemmas.Map.Keys.{sorted_head, sorted_tail, Less-from_sorted}
use Rattle.std.specs.BTreeMap.{is_at}
use Rattle.std.specs.Box.{with_value}
use Rattle.std.specs.Cmp.{Equal-is, tied_itself, eq_by_cmp_equiv}
use Rattle.std.specs.FinMap as map
use Rattle.std.specs.List.{AllByRecursion, filter, insert, list_any, cons_option}
use Rattle.std.specs.List.Sorted.{IsStrictlySortedBy, IsBinarySearchResult, IsSearchInRange, IsNonDecreasingBy, IsPartitionPoint}
use Rattle.std.specs.Map.{lookup}
use Rattle.std.specs.Option.{option_map, option_or, is_some}
use Rattle.std.specs.Ordering.{is_eq, is_lt, ordering_index}
use Rattle.std.specs.Prelude.{Box, box_value}
use Rattle.std.specs.declared.alloc.Global.{Global}
use Rattle.fl_labels.specs.Pid.{pid_cmp}
use Rattle.fl_labels.specs.PidOrder.{pid_total, pid_exact}
use Rattle.fl_labels.specs.declared.pid.Pid.{Pid}
use Rattle.fl_labels.specs.laws.Rising.{searchable, missed_by_search, rising_insert}
use Rattle.fl_mailbox.specs.laws.Tables.{get_held, one_put, one_gone}
use Rattle.fl_monitor.specs.declared.pid_map.Slot.{Slot}
use Rattle.fl_monitor.specs.parts.Slots.{held, with_held, pids_of, entries_of, IsRising, IsAt, IsGapFor, Keeps}

-- ---- pids

is_less : (o : Ordering) → is_lt o ≡ true → o ≡ Less
is_less Less e = refl
is_less Equal e = absurd (cc)
is_less Greater e = absurd (cc)

same_pid : (q k : Pid) → is_at (pid_cmp q) k ≡ true → q ≡ k
same_pid q k e = pid_exact q k ((Equal-is (pid_cmp q k)).0 e)

at_itself : (q k : Pid) → q ≡ k → is_at (pid_cmp q) k ≡ true
at_itself q k e = ap (is_at (pid_cmp q)) (sym e) ∙ ap is_eq (tied_itself pid_total q)

flipped : (q k : Pid) → is_at (pid_cmp q) k ≡ is_at (pid_cmp k) q
flipped q k = (eq_by_cmp_equiv pid_total).symm q k

below_is_other : (q k : Pid) → pid_cmp k q ≡ Less → is_at (pid_cmp q) k ≡ false
below_is_other q k e = flipped q k ∙ ap is_eq e

nothing_above : (k : Pid) (ks : List Pid) → AllByRecursion (λ y. pid_cmp k y ≡ Less) ks
    → list_any (is_at (pid_cmp k)) ks ≡ false
nothing_above k [] all = refl
nothing_above k (y ∷ ks) all = or_from _ _ (ap is_eq all.0) (nothing_above k ks all.1)

pub rising_none : IsStrictlySortedBy pid_cmp []
unfolding IsStrictlySortedBy
rising_none = tt

rising_cons : (k : Pid) (ks : List Pid) → AllByRecursion (λ y. pid_cmp k y ≡ Less) ks
    → IsStrictlySortedBy pid_cmp ks → IsStrictlySortedBy pid_cmp (k ∷ ks)
unfolding IsStrictlySortedBy
rising_cons k ks all up = (all, up)

alike : {A : Type 0} (b : Bool) (x : A) → x ≡ cond b x x
alike true x = refl
alike false x = refl

or_none : {A : Type 0} (x : Option A) → option_or x None ≡ x
or_none None = refl
or_none (Some x) = refl

-- ---- a look along slots, of which one was written or put: a says whether the first slot is looked
-- for, c whether the new one is, and e, l and m are what is found in the others

module _ {T : Type 0} where
  at_first : (a b c : Bool) (x v e : Option T) → a ≡ c → b ≡ c → (c ≡ true → e ≡ None)
      → cond a (option_or v e) e ≡ cond c v (cond b (option_or x e) e)
  at_first a b true x v e p r none =
      ap (λ t. cond t (option_or v e) e) p ∙ ap (option_or v) (none refl) ∙ or_none v
  at_first a b false x v e p r none =
      ap (λ t. cond t (option_or v e) e) p ∙ sym (ap (λ t. cond t (option_or x e) e) r)

  at_later : (a c : Bool) (x v l m : Option T) → (a ≡ true → c ≡ false) → m ≡ cond c v l
      → cond a (option_or x m) m ≡ cond c v (cond a (option_or x l) l)
  at_later true true x v l m apart e = absurd (false≢true (sym (apart refl)))
  at_later true false x v l m apart e = ap (option_or x) e
  at_later false c x v l m apart e = e

  abbrev looked : Pid → List (Slot T) → Option T
  looked q slots = lookup (is_at (pid_cmp q)) (entries_of slots)

  step : (q : Pid) (s : Slot T) (slots : List (Slot T))
      → looked q (s ∷ slots)
      ≡ cond (is_at (pid_cmp q) s.pid) (option_or (held s) (looked q slots)) (looked q slots)
  step q s slots = by_value (held s)
    where
      by_value : (x : Option T)
          → lookup (is_at (pid_cmp q))
          (cons_option (option_map (λ y. (s.pid, y)) x) (entries_of slots))
          ≡ cond (is_at (pid_cmp q) s.pid) (option_or x (looked q slots)) (looked q slots)
      by_value None = alike (is_at (pid_cmp q) s.pid) (looked q slots)
      by_value (Some x) = refl

  chosen : (q : Pid) (s : Slot T) (slots : List (Slot T)) (b : Bool) → is_at (pid_cmp q) s.pid ≡ b
      → looked q (s ∷ slots) ≡ cond b (option_or (held s) (looked q slots)) (looked q slots)
  chosen q s slots b e =
      step q s slots ∙ ap (λ t. cond t (option_or (held s) (looked q slots)) (looked q slots)) e

  none_among : (q : Pid) (slots : List (Slot T))
      → list_any (is_at (pid_cmp q)) (pids_of slots) ≡ false
      → looked q slots ≡ None
  none_among q [] h = refl
  none_among q (s ∷ slots) h =
      let parts = or_parts (is_at (pid_cmp q) s.pid)
      (list_any (is_at (pid_cmp q)) (pids_of slots)) h in
      chosen q s slots false parts.0 ∙ none_among q slots parts.1

  none_above : (s : Slot T) (slots : List (Slot T)) → IsRising (s ∷ slots) → (q : Pid) → q ≡ s.pid
      → looked q slots ≡ None
  none_above s slots up q e = none_among q slots
      (ap (λ k. list_any (is_at (pid_cmp k)) (pids_of slots)) e
      ∙ nothing_above s.pid (pids_of slots) (sorted_head pid_cmp s.pid (pids_of slots) up))

  -- ---- places

  length_pids : (slots : List (Slot T)) → length (pids_of slots) ≡ length slots
  length_pids [] = refl
  length_pids (s ∷ slots) = ap suc (length_pids slots)

  pid_of_get : (slots : List (Slot T)) (k : ℕ) (d : Slot T)
      → get_or (pids_of slots) k d.pid ≡ (get_or slots k d).pid
  pid_of_get [] k d = refl
  pid_of_get (s ∷ slots) zero d = refl
  pid_of_get (s ∷ slots) (suc k) d = pid_of_get slots k d

  pid_at : (P : Pid → Type 0) (slots : List (Slot T)) (k : ℕ) (d : Pid) → k < length slots
      → ((s : Slot T) → P (get_or slots k s).pid) → P (get_or (pids_of slots) k d)
  pid_at P [] k d h at = absurd (omega arith)
  pid_at P (s ∷ slots) zero d h at = at s
  pid_at P (s ∷ slots) (suc k) d h at = pid_at P slots k d (omega arith) at

  later : (s : Slot T) (slots : List (Slot T)) (q : Pid) (i : ℕ) → IsAt (s ∷ slots) q (suc i)
      → IsAt slots q i
  later s slots q i at = record { in_range = omega (arith, at.in_range); has_pid = at.has_pid }

  first_is_below : (s : Slot T) (slots : List (Slot T)) (q : Pid) (i : ℕ) → IsRising (s ∷ slots)
      → IsAt slots q i → pid_cmp s.pid q ≡ Less
  first_is_below s slots q i up at =
      ap (pid_cmp s.pid) (sym (pid_at (λ p. p ≡ q) slots i q at.in_range at.has_pid))
      ∙ Less-from_sorted pid_cmp (pids_of (s ∷ slots)) 0 (suc i) q up (omega arith)
      (omega (arith, length_pids slots, at.in_range))

  -- ---- what a search finds

  searchable_slots : (slots : List (Slot T)) (q : Pid) → IsRising slots
      → IsNonDecreasingBy (λ s. ordering_index (pid_cmp s.pid q)) slots
  searchable_slots slots q up i j d le lt =
      let within : j < length (pids_of slots) = omega (arith, length_pids slots) in
      let h = searchable pid_total (pids_of slots) q up i j d.pid le within in
      let rank = λ (p : Pid). ordering_index (pid_cmp p q) in
      subst (λ p. rank p ≤ rank (get_or slots j d).pid) (pid_of_get slots i d)
      (subst (λ p. rank (get_or (pids_of slots) i d.pid) ≤ rank p) (pid_of_get slots j d) h)

  -- where a new slot stands in the order
  gap_at : (slots : List (Slot T)) (q : Pid) (i : ℕ) → IsRising slots → i ≤ length slots
      → IsPartitionPoint (λ p. pid_cmp p q ≡ Less) (λ p. pid_cmp p q ≡ Greater) (pids_of slots) i
      → IsGapFor slots q i
  gap_at slots q i up within among = record {
    in_range = within;
    absent = missed_by_search pid_total (pids_of slots) q i among;
    rises = rising_insert pid_total (pids_of slots) q i up (omega (arith, length_pids slots, within)) among;
  }

  -- behind the last one, where that is below
  pub behind_last : (slots : List (Slot T)) (q : Pid) (s : Slot T) (r : Ordering) → IsRising slots
      → slice_get slots (length slots - 1) ≡ Some s → r ≡ pid_cmp s.pid q → is_lt r ≡ true
      → IsGapFor slots q (length slots)
  behind_last slots q s r up last cmp below =
      gap_at slots q (length slots) up (omega arith) (
        λ i d low high. elim (cases_lt i (length slots - 1)) [
          | inl before ↦ pid_total.trans (get_or (pids_of slots) i d) (get_or (pids_of slots) (length slots - 1) d) q
              (Less-from_sorted pid_cmp (pids_of slots) i (length slots - 1) d up before
              (omega (arith, length_pids slots, within)))
              (at_last d)
          | inr at ↦
              subst (λ j. pid_cmp (get_or (pids_of slots) j d) q ≡ Less)
              (omega (arith, within)) (at_last d)
        ],
        λ i d low high. absurd (omega (arith, length_pids slots)),
      )
    where
      within : length slots - 1 < length slots
      within = slice_get_within slots (length slots - 1) s last

      at_last : (d : Pid) → pid_cmp (get_or (pids_of slots) (length slots - 1) d) q ≡ Less
      at_last d = pid_at (λ p. pid_cmp p q ≡ Less) slots (length slots - 1) d within (λ x.
          ap (λ (t : Slot T). pid_cmp t.pid q) (get_or_from_slice_get slots (length slots - 1) s x last)
          ∙ sym cmp ∙ is_less r below)

  pub searched : (slots : List (Slot T)) (q : Pid) (r : Result ℕ ℕ) → IsRising slots
      → IsSearchInRange r (length slots) → IsBinarySearchResult (λ s. pid_cmp s.pid q) slots r
      → IfOk r (IsAt slots q) × IfErr r (IsGapFor slots q)
  searched slots q (Ok i) up within at =
      (record { in_range = within; has_pid = λ d. pid_exact _ q (at d) }, tt)
  searched slots q (Err i) up within at =
      let parted = at (searchable_slots slots q up) in
      let is_below = λ (p : Pid). pid_cmp p q ≡ Less in
      let is_above = λ (p : Pid). pid_cmp p q ≡ Greater in
      let among : IsPartitionPoint is_below is_above (pids_of slots) i = (
        λ k d low high. pid_at is_below slots k d (omega arith) (λ s. parted.0 k s low high),
        λ k d low high.
            let inside : k < length slots = omega (arith, length_pids slots) in
            pid_at is_above slots k d inside (λ s. parted.1 k s low inside),
      ) in
      (tt, gap_at slots q i up within among)

  found_at : (slots : List (Slot T)) (q : Pid) (i : ℕ) (d : Slot T) → IsRising slots
      → IsAt slots q i → looked q slots ≡ held (get_or slots i d)
  found_at [] q i d up at = absurd (omega (arith, at.in_range))
  found_at (s ∷ slots) q zero d up at =
      let e = sym (at.has_pid s) in
      chosen q s slots true (at_itself q s.pid e)
      ∙ ap (option_or (held s)) (none_above s slots up q e) ∙ or_none (held s)
  found_at (s ∷ slots) q (suc i) d up at =
      let rest = later s slots q i at in
      chosen q s slots false (below_is_other q s.pid (first_is_below s slots q i up rest))
      ∙ found_at slots q i d (sorted_tail pid_cmp s.pid (pids_of slots) up) rest

  -- ---- what a write and an insert leave

  apart : (s n : Slot T) (q : Pid) → is_at (pid_cmp n.pid) s.pid ≡ false
      → is_at (pid_cmp q) s.pid ≡ true → is_at (pid_cmp n.pid) q ≡ false
  apart s n q other e = ap (is_at (pid_cmp n.pid)) (same_pid q s.pid e) ∙ other

  written_at : (slots : List (Slot T)) (n : Slot T) (i : ℕ) → IsRising slots → IsAt slots n.pid i
      → (q : Pid)
      → looked q (set slots i n) ≡ cond (is_at (pid_cmp n.pid) q) (held n) (looked q slots)
  written_at [] n i up at q = absurd (omega (arith, at.in_range))
  written_at (s ∷ slots) n zero up at q =
      let e = at.has_pid s in
      step q n slots
      ∙ at_first (is_at (pid_cmp q) n.pid) (is_at (pid_cmp q) s.pid) (is_at (pid_cmp n.pid) q)
      (held s) (held n) (looked q slots) (flipped q n.pid)
      (ap (is_at (pid_cmp q)) e ∙ flipped q n.pid)
      (λ h. none_above s slots up q (sym (same_pid n.pid q h) ∙ sym e))
      ∙ ap (cond (is_at (pid_cmp n.pid) q) (held n)) (sym (step q s slots))
  written_at (s ∷ slots) n (suc i) up at q =
      let rest = later s slots n.pid i at in
      step q s (set slots i n)
      ∙ at_later (is_at (pid_cmp q) s.pid) (is_at (pid_cmp n.pid) q) (held s) (held n)
      (looked q slots) (looked q (set slots i n))
      (apart s n q (below_is_other n.pid s.pid (first_is_below s slots n.pid i up rest)))
      (written_at slots n i (sorted_tail pid_cmp s.pid (pids_of slots) up) rest q)
      ∙ ap (cond (is_at (pid_cmp n.pid) q) (held n)) (sym (step q s slots))

  put_first : (slots : List (Slot T)) (n : Slot T) (x : T) → held n ≡ Some x → (q : Pid)
      → looked q (n ∷ slots) ≡ cond (is_at (pid_cmp n.pid) q) (Some x) (looked q slots)
  put_first slots n x full q =
      chosen q n slots _ (flipped q n.pid)
      ∙ ap (λ v. cond (is_at (pid_cmp n.pid) q) (option_or v (looked q slots)) (looked q slots))
      full

  inserted_at : (slots : List (Slot T)) (n : Slot T) (i : ℕ) (x : T) → held n ≡ Some x
      → list_any (is_at (pid_cmp n.pid)) (pids_of slots) ≡ false → (q : Pid)
      → looked q (insert slots i n) ≡ cond (is_at (pid_cmp n.pid) q) (Some x) (looked q slots)
  inserted_at slots n zero x full absent q = put_first slots n x full q
  inserted_at [] n (suc i) x full absent q = put_first [] n x full q
  inserted_at (s ∷ slots) n (suc i) x full absent q =
      let parts = or_parts (is_at (pid_cmp n.pid) s.pid)
      (list_any (is_at (pid_cmp n.pid)) (pids_of slots)) absent in
      step q s (insert slots i n)
      ∙ at_later (is_at (pid_cmp q) s.pid) (is_at (pid_cmp n.pid) q) (held s) (Some x)
      (looked q slots) (looked q (insert slots i n))
      (apart s n q parts.0) (inserted_at slots n i x full parts.1 q)
      ∙ ap (cond (is_at (pid_cmp n.pid) q) (Some x)) (sym (step q s slots))

  pids_set : (slots : List (Slot T)) (n : Slot T) (i : ℕ) → IsAt slots n.pid i
      → pids_of slots ≡ pids_of (set slots i n)
  pids_set [] n i at = absurd (omega (arith, at.in_range))
  pids_set (s ∷ slots) n zero at = ap (λ k. k ∷ pids_of slots) (at.has_pid s)
  pids_set (s ∷ slots) n (suc i) at =
      ap (λ ks. s.pid ∷ ks) (pids_set slots n i (later s slots n.pid i at))

  pids_insert : (slots : List (Slot T)) (n : Slot T) (i : ℕ)
      → insert (pids_of slots) i n.pid ≡ pids_of (insert slots i n)
  pids_insert slots n zero = refl
  pids_insert [] n (suc i) = refl
  pids_insert (s ∷ slots) n (suc i) = ap (λ ks. s.pid ∷ ks) (pids_insert slots n i)

  -- ---- what the methods owe: the slots were these, in order, and listed m

  -- a value is what was written over another
  pub rewritten : (s : Slot T) (x : T) → Some x ≡ held s → (w : T) → held (with_held s w) ≡ Some w
  rewritten s x full w = by_value s.value full
    where
      by_value : (v : Option (Box T Global)) → Some x ≡ option_map box_value v
          → option_map box_value (option_map (λ b. with_value b w) v) ≡ Some w
      by_value None e = absurd (cc)
      by_value (Some b) e = refl

  -- the slot that was read at its place
  pub is_of : (slots : List (Slot T)) (q : Pid) (i : ℕ) (s : Slot T) → IsAt slots q i
      → s ≡ get_or slots i s → s.pid ≡ q
  is_of slots q i s at read = ap (λ t. t.pid) read ∙ at.has_pid s

  module _ (slots : List (Slot T)) (m : map.FinMap pid_cmp T) (up : IsRising slots)
      (view : map.from_entries (entries_of slots) ≡ m) (q : Pid) (i : ℕ) where
    abbrev pub Lists : List (Slot T) → map.FinMap pid_cmp T → Type 0
    Lists news n = map.from_entries (entries_of news) ≡ n

    seen : looked q slots ≡ map.get m q
    seen = get_held pid_total pid_exact (entries_of slots) m q view

    -- the slot was found
    pub found : (s : Slot T) → IsAt slots q i → s ≡ get_or slots i s → held s ≡ map.get m q
    found s at read = ap held read ∙ sym (found_at slots q i s up at) ∙ seen

    -- it was not
    pub missed : IsGapFor slots q i → None ≡ map.get m q
    missed gap = sym (none_among q slots gap.absent) ∙ seen

    -- so nothing is removed
    pub not_there : IsGapFor slots q i → m ≡ map.remove m q
    not_there gap = sym view
        ∙ one_gone pid_total pid_exact (entries_of slots) (entries_of slots) m q view
        (λ p. by_pid p (is_at (pid_cmp q) p) refl)
      where
        by_pid : (p : Pid) (b : Bool) → is_at (pid_cmp q) p ≡ b
            → looked p slots ≡ cond b None (looked p slots)
        by_pid p true e =
            subst (λ k. looked k slots ≡ None) (same_pid q p e) (none_among q slots gap.absent)
        by_pid p false e = refl

    -- the slot was written back as it was
    pub put_back : (s : Slot T) → s ≡ get_or slots i s → Lists (set slots i s) m
    put_back s read = ap (λ l. map.from_entries (entries_of l))
        (ap (set slots i) read ∙ set-get_or slots i s) ∙ view

    -- another was written in its place
    own : (n : Slot T) → IsAt slots q i → n.pid ≡ q → IsAt slots n.pid i
    own n at e = subst (λ p. IsAt slots p i) (sym e) at

    written : (n : Slot T) (v : Option T) → IsAt slots q i → n.pid ≡ q → held n ≡ v → (p : Pid)
        → looked p (set slots i n) ≡ cond (is_at (pid_cmp n.pid) p) v (looked p slots)
    written n v at e full p = written_at slots n i up (own n at e) p
        ∙ ap (λ v. cond (is_at (pid_cmp n.pid) p) v (looked p slots)) full

    pub put_over : (n : Slot T) (x : T) → IsAt slots q i → n.pid ≡ q → held n ≡ Some x
        → Lists (set slots i n) (map.insert m q x)
    put_over n x at e full = subst (λ p. Lists (set slots i n) (map.insert m p x)) e
        (one_put pid_total pid_exact (entries_of slots) _ m n.pid x view (written n _ at e full))

    pub emptied : (n : Slot T) → IsAt slots q i → n.pid ≡ q → held n ≡ None
        → Lists (set slots i n) (map.remove m q)
    emptied n at e none = subst (λ p. Lists (set slots i n) (map.remove m p)) e
        (one_gone pid_total pid_exact (entries_of slots) _ m n.pid view (written n _ at e none))

    pub rising_set : (n : Slot T) → IsAt slots q i → n.pid ≡ q → IsRising (set slots i n)
    rising_set n at e = subst (IsStrictlySortedBy pid_cmp) (pids_set slots n i (own n at e)) up

    -- a new one was put
    own_gap : (n : Slot T) → IsGapFor slots q i → n.pid ≡ q → IsGapFor slots n.pid i
    own_gap n gap e = subst (λ p. IsGapFor slots p i) (sym e) gap

    pub put_new : (n : Slot T) (x : T) → IsGapFor slots q i → n.pid ≡ q → held n ≡ Some x
        → Lists (insert slots i n) (map.insert m q x)
    put_new n x gap e full = subst (λ p. Lists (insert slots i n) (map.insert m p x)) e
        (one_put pid_total pid_exact (entries_of slots) _ m n.pid x view
        (inserted_at slots n i x full (own_gap n gap e).absent))

    pub rising_put : (n : Slot T) → IsGapFor slots q i → n.pid ≡ q → IsRising (insert slots i n)
    rising_put n gap e =
        subst (IsStrictlySortedBy pid_cmp) (pids_insert slots n i) (own_gap n gap e).rises

  -- ---- the packing

  abbrev is_full : Slot T → Bool
  is_full s = is_some s.value

  packed_entries : (slots : List (Slot T)) → entries_of (filter is_full slots) ≡ entries_of slots
  packed_entries [] = refl
  packed_entries (s ∷ slots) = by_value (packed_entries slots) s.value refl
    where
      by_value : entries_of (filter is_full slots) ≡ entries_of slots
          → (v : Option (Box T Global)) → s.value ≡ v
          → entries_of (cond (is_some v) (s ∷ filter is_full slots) (filter is_full slots))
          ≡ entries_of (s ∷ slots)
      by_value rest None e = rest ∙ sym (ap (λ (v : Option (Box T Global)).
          cons_option (option_map (λ x. (s.pid, x)) (option_map box_value v)) (entries_of slots)) e)
      by_value rest (Some b) e = ap (cons_option (option_map (λ x. (s.pid, x)) (held s))) rest

  all_packed : (P : Pid → Type 0) (slots : List (Slot T)) → AllByRecursion P (pids_of slots)
      → AllByRecursion P (pids_of (filter is_full slots))
  all_packed P [] all = tt
  all_packed P (s ∷ slots) all = by_test (all_packed P slots all.1) (is_full s)
    where
      by_test : AllByRecursion P (pids_of (filter is_full slots)) → (b : Bool)
          → AllByRecursion P (pids_of (cond b (s ∷ filter is_full slots) (filter is_full slots)))
      by_test rest true = (all.0, rest)
      by_test rest false = rest

  packed_rising : (slots : List (Slot T)) → IsRising slots → IsRising (filter is_full slots)
  packed_rising [] up = up
  packed_rising (s ∷ slots) up =
      by_test (packed_rising slots (sorted_tail pid_cmp s.pid (pids_of slots) up)) (is_full s)
    where
      by_test : IsRising (filter is_full slots) → (b : Bool)
          → IsRising (cond b (s ∷ filter is_full slots) (filter is_full slots))
      by_test rest true = rising_cons s.pid (pids_of (filter is_full slots))
          (all_packed (λ y. pid_cmp s.pid y ≡ Less) slots
          (sorted_head pid_cmp s.pid (pids_of slots) up)) rest
      by_test rest false = rest

  pub packed : (slots news : List (Slot T)) → news ≡ filter is_full slots → Keeps slots news
  packed slots news e = record {
    entries = ap entries_of e ∙ packed_entries slots;
    rising = λ up. subst IsRising (sym e) (packed_rising slots up);
  }
