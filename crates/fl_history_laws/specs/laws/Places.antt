-- What stands at the benches of a node, where one of them changes, or the node is opened.
use Rattle.std.proofs.Common.{◌≡◌, ◌⊎◌, ◌∙◌, ◌+◌, inl, inr, refl, sym, ap, subst, ℕ, List, length, Option, Some, None}
use Rattle.std.specs.FinMap as map
use Rattle.fl_labels.specs.Pid.{pid_cmp}
use Rattle.fl_labels.specs.declared.pid.Pid.{Pid}
use Rattle.fl_bench.specs.Bench.{BenchState, new_bench}
use Rattle.fl_bench.specs.declared.process.Process.{Process}
use Rattle.fl_bench.specs.laws.Puts.{none_some}
use Rattle.fl_store.specs.Kept.{Kept}
use Rattle.fl_system.specs.Numbered.{item_at, change_item}
use Rattle.fl_system.specs.Processes.{process_at, process_of}
use Rattle.fl_system.specs.Jobs.{bench_of}
use Rattle.fl_system.specs.Openings.{opened}
use Rattle.fl_system_laws.specs.laws.Numbered.{length-change, changed_at, others_stay, was_at, made_at}
use Rattle.fl_history_laws.specs.laws.Turning.{same_place}

-- that stands among these benches, if there is one
abbrev pub process_among : List BenchState → Pid → Option Process
process_among benches pid = process_at (item_at benches (bench_of (length benches) pid.serial)) pid

-- Once the bench k was changed, pid stands as before, or at that bench.
pub data Stands (change : BenchState → BenchState) (benches : List BenchState) (k : ℕ) (pid : Pid) (o : Option Process)
    : Type 0 where
  elsewhere : o ≡ process_among benches pid → Stands change benches k pid o
  there : (b : BenchState) → item_at benches k ≡ Some b → process_among benches pid ≡ map.get b.processes pid
      → o ≡ map.get (change b).processes pid → Stands change benches k pid o

module _ (change : BenchState → BenchState) (benches : List BenchState) (k : ℕ) (pid : Pid) where
  abbrev here : ℕ
  here = bench_of (length benches) pid.serial

  abbrev after : List BenchState
  after = change_item change benches k

  -- a place without a bench has none after it
  none_after : item_at benches here ≡ None → (o : Option BenchState) → item_at after here ≡ o → o ≡ None
  none_after e None f = refl
  none_after e (Some y) f = let was = was_at change benches k here y f in absurd (none_some e was.there)

  by_bench : here ≡ k → (o : Option BenchState) → item_at benches here ≡ o
      → Stands change benches k pid (process_at (item_at after here) pid)
  by_bench is None e = elsewhere (ap (λ o. process_at o pid) (none_after e (item_at after here) refl ∙ sym e))
  by_bench is (Some b) e =
      let at_k : item_at benches k ≡ Some b = subst (λ i. item_at benches i ≡ Some b) is e in
      there b at_k (ap (λ o. process_at o pid) e)
      (ap (λ i. process_at (item_at after i) pid) is ∙ ap (λ o. process_at o pid) (changed_at change benches k b at_k))

  by_place : (here ≡ k) ⊎ (¬ (here ≡ k)) → Stands change benches k pid (process_at (item_at after here) pid)
  by_place (inl is) = by_bench is (item_at benches here) refl
  by_place (inr other) = elsewhere (ap (λ o. process_at o pid) (others_stay change benches k here other))

  pub stands_after : Stands change benches k pid (process_among (change_item change benches k) pid)
  stands_after =
      subst (λ c. Stands change benches k pid (process_at (item_at after (bench_of c pid.serial)) pid))
      (sym (length-change change benches k)) (by_place (same_place here k))

-- at an opening nobody stands
module _ (desks : ℕ) (k : Kept) (pid : Pid) where
  abbrev new_benches : List BenchState
  new_benches = (opened desks k).benches

  none_new : (place : ℕ) (o : Option BenchState) → item_at new_benches place ≡ o → process_at o pid ≡ None
  none_new place None e = refl
  none_new place (Some b) e =
      let m = made_at desks (λ index. new_bench k.number (k.boot + 1) index desks) place b e in
      ap (λ (x : BenchState). map.get x.processes pid) m.is ∙ map.get-empty pid_cmp pid

  pub opened_none : process_of (opened desks k) pid ≡ None
  opened_none = none_new (bench_of (length new_benches) pid.serial) _ refl
