-- The pids of slots that have a value are the keys of their map.
use Rattle.std.proofs.Common.{arith, ◌≡◌, ◌≢◌, ◌∙◌, ◌<◌, ℕ, zero, suc, Bool, true, false, cond, List, [], ◌∷◌, ◌++◌, length, map, take, get_or, refl, sym, ap, subst, T, Option, Some, None, Ordering, Less}
use Rattle.std.proofs.lemmas.List.{append_assoc, append-nil}
use Rattle.std.specs.FinMap as finite
use Rattle.std.specs.FinMap.Entries.{below_all, is_sorted, same_entries}
use Rattle.std.specs.List.{AllByRecursion, cons_option, flat_map}
use Rattle.std.specs.List.Sorted.{IsStrictlySortedBy}
use Rattle.std.specs.Option.{is_some, option_map}
use Rattle.std.specs.Ordering.{is_lt}
use Rattle.std.specs.Prelude.{◌&&◌, Box, box_value}
use Rattle.std.specs.declared.alloc.Global.{Global}
use Rattle.fl_labels.specs.Pid.{pid_cmp}
use Rattle.fl_labels.specs.PidOrder.{pid_total, pid_exact}
use Rattle.fl_labels.specs.declared.pid.Pid.{Pid}
use Rattle.fl_monitor.specs.declared.pid_map.Slot.{Slot}
use Rattle.fl_monitor.specs.parts.Slots.{held, pids_of, entries_of, IsRising}

both : (a b : Bool) → T a → T b → T (a && b)
both true b x y = y
both false b x y = absurd x

less : (o : Ordering) → o ≡ Less → T (is_lt o)
less o e = subst (λ r. T (is_lt r)) (sym e) tt

rest_empty : (xs ys : List Pid) → xs ++ ys ≡ [] → ys ≡ []
rest_empty [] ys e = e
rest_empty (x ∷ xs) ys e = absurd (cc e)

module _ {X : Type 0} where
  -- the pid of a slot, where that has a value
  abbrev pub key : Slot X → List Pid
  key s = cond (is_some (held s)) (s.pid ∷ []) []

  abbrev pub keys : List (Slot X) → List Pid
  keys slots = flat_map key slots

  pub key_full : (s : Slot X) → is_some s.value ≡ true → key s ≡ s.pid ∷ []
  key_full s e = by_value s.value e
    where
      by_value : (v : Option (Box X Global)) → is_some v ≡ true
          → cond (is_some (option_map box_value v)) (s.pid ∷ []) [] ≡ s.pid ∷ []
      by_value None e = absurd (cc e)
      by_value (Some b) e = refl

  pub key_none : (s : Slot X) → is_some s.value ≡ false → key s ≡ []
  key_none s e = by_value s.value e
    where
      by_value : (v : Option (Box X Global)) → is_some v ≡ false
          → cond (is_some (option_map box_value v)) (s.pid ∷ []) [] ≡ []
      by_value None e = refl
      by_value (Some b) e = absurd (cc e)

  of_entries : (slots : List (Slot X)) → map (λ e. e.0) (entries_of slots) ≡ keys slots
  of_entries [] = refl
  of_entries (s ∷ slots) = by_value (held s) (of_entries slots)
    where
      by_value : (x : Option X) → map (λ e. e.0) (entries_of slots) ≡ keys slots
          → map (λ e. e.0) (cons_option (option_map (λ y. (s.pid, y)) x) (entries_of slots))
          ≡ cond (is_some x) (s.pid ∷ []) [] ++ keys slots
      by_value None rest = rest
      by_value (Some x) rest = ap (λ ks. s.pid ∷ ks) rest

  below : (k : Pid) (slots : List (Slot X)) → AllByRecursion (λ y. pid_cmp k y ≡ Less) (pids_of slots)
      → T (below_all pid_cmp k (entries_of slots))
  below k [] all = tt
  below k (s ∷ slots) all = by_value (held s) (below k slots all.1)
    where
      by_value : (x : Option X) → T (below_all pid_cmp k (entries_of slots))
          → T (below_all pid_cmp k (cons_option (option_map (λ y. (s.pid, y)) x) (entries_of slots)))
      by_value None rest = rest
      by_value (Some x) rest = both _ _ (less (pid_cmp k s.pid) all.0) rest

  sorted : (slots : List (Slot X)) → IsRising slots → T (is_sorted pid_cmp (entries_of slots))
  unfolding IsStrictlySortedBy
  sorted [] up = tt
  sorted (s ∷ slots) up = by_value (held s) (below s.pid slots up.0) (sorted slots up.1)
    where
      by_value : (x : Option X) → T (below_all pid_cmp s.pid (entries_of slots))
          → T (is_sorted pid_cmp (entries_of slots))
          → T (is_sorted pid_cmp (cons_option (option_map (λ y. (s.pid, y)) x) (entries_of slots)))
      by_value None first rest = rest
      by_value (Some x) first rest = both _ _ first rest

  -- the keys of the map that slots list
  pub keys_of_map : (slots : List (Slot X)) (m : finite.FinMap pid_cmp X) → IsRising slots
      → finite.from_entries (entries_of slots) ≡ m → keys slots ≡ finite.keys m
  keys_of_map slots m up view =
      let listed : finite.FinMap pid_cmp X = finite.from_entries (entries_of slots) in
      let same : finite.entries listed ≡ entries_of slots =
      same_entries pid_cmp pid_total (λ x y e. pid_exact x y e) (finite.entries listed)
      (entries_of slots) (finite.entries_sorted listed) (sorted slots up)
      (λ q. sym (finite.get-entries listed q)
      ∙ finite.get-from_entries pid_total (entries_of slots) q) in
      sym (of_entries slots) ∙ ap (map (λ e. e.0)) (sym same)
      ∙ ap (λ n. finite.keys n) view

  -- one more slot
  pub keys_more : (slots : List (Slot X)) (k : ℕ) (s : Slot X) → k < length slots
      → keys (take (suc k) slots) ≡ keys (take k slots) ++ key (get_or slots k s)
  keys_more [] k s inside = absurd (omega (arith, inside))
  keys_more (t ∷ slots) zero s inside = append-nil (key t)
  keys_more (t ∷ slots) (suc k) s inside =
      ap (λ ks. key t ++ ks) (keys_more slots k s (omega (arith, inside)))
      ∙ sym (append_assoc (key t) (keys (take k slots)) (key (get_or slots k s)))

  -- where one slot has a value there is a key
  pub some_key : (slots : List (Slot X)) (k : ℕ) (s : Slot X) → k < length slots
      → key (get_or slots k s) ≡ (get_or slots k s).pid ∷ [] → keys slots ≢ []
  some_key [] k s inside full none = absurd (omega (arith, inside))
  some_key (t ∷ slots) zero s inside full none =
      absurd (cc (sym (ap (λ ks. ks ++ keys slots) full) ∙ none))
  some_key (t ∷ slots) (suc k) s inside full none =
      some_key slots k s (omega (arith, inside)) full (rest_empty (key t) (keys slots) none)
