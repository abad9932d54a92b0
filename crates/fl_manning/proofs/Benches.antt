-- The benches of the workers, once an operation is finished at one of them.
use Rattle.std.proofs.Common.{◌≡◌, ◌≢◌, ◌∙◌, ◌⊎◌, inl, inr, true, false, ℕ, zero, suc, ◌<◌, cond, eqb, List, length, get_or, set, sym, ap, arith, get_or-set_same, get_or-set_other}
use Rattle.std.proofs.Math.ListN.{length-set}
use Rattle.std.proofs.lemmas.Bool.Decides.{eqb_tells}
use Rattle.fl_labels.specs.declared.pid.Pid.{Pid}
use Rattle.fl_ops.specs.declared.op.Op.{Op}
use Rattle.fl_bench.specs.Bench.{BenchState}
use Rattle.fl_bench.specs.Gifts.{finished}
use Rattle.fl_crew_model.specs.Crews.{IsWorker}
use Rattle.fl_worker.specs.declared.worker.Worker.{Worker}
use Rattle.fl_settling.specs.Numbers.{bench_by, its_bench}
use Rattle.fl_settling.proofs.Choosing.{item_get}

bench_get : (ws : List Worker) (k : ℕ) (d : Worker) → k < length ws → bench_by ws (suc k) ≡ (get_or ws k d).bench
bench_get ws k d below = ap its_bench (item_get ws k d below)

module _ (ws : List Worker) (m : ℕ) (new : Worker) (pid : Pid) (op : Op) (below : m < length ws)
    (is : new.bench ≡ finished (get_or ws m new).bench pid op) where
  here : bench_by (set ws m new) (suc m) ≡ finished (bench_by ws (suc m)) pid op
  here =
      let still : m < length (set ws m new) = omega (arith, length-set ws m new) in
      bench_get (set ws m new) m new still
      ∙ (ap (λ (w : Worker). w.bench) (get_or-set_same ws m new new below)
      ∙ (is ∙ ap (λ (b : BenchState). finished b pid op) (sym (bench_get ws m new below))))

  there : (k : ℕ) → k ≢ m → k < length ws → bench_by (set ws m new) (suc k) ≡ bench_by ws (suc k)
  there k other within =
      let still : k < length (set ws m new) = omega (arith, length-set ws m new) in
      bench_get (set ws m new) k new still
      ∙ (ap (λ (w : Worker). w.bench) (get_or-set_other ws m k new new other) ∙ sym (bench_get ws k new within))

  by_test : (k : ℕ) → k < length ws
      → ((eqb (suc m) (suc k) ≡ true) × (suc m ≡ suc k)) ⊎ ((eqb (suc m) (suc k) ≡ false) × (suc m ≢ suc k))
      → bench_by (set ws m new) (suc k)
      ≡ cond (eqb (suc m) (suc k)) (finished (bench_by ws (suc m)) pid op) (bench_by ws (suc k))
  by_test k within (inl (test, same)) =
      let e : k ≡ m = omega arith in
      rw (test, e) here
  by_test k within (inr (test, other)) =
      let e : k ≢ m = omega arith in
      rw test (there k e within)

-- with the number as the call has it
pub finished_at : (ws : List Worker) (number m : ℕ) (new : Worker) (pid : Pid) (op : Op) → number ≡ suc m
    → m < length ws → new.bench ≡ finished (get_or ws m new).bench pid op
    → (w : ℕ) → IsWorker (length ws) w → bench_by (set ws m new) w
    ≡ cond (eqb number w) (finished (bench_by ws number) pid op) (bench_by ws w)
finished_at ws number m new pid op one below is zero its = absurd (let low = its.low in omega (arith, low))
finished_at ws number m new pid op one below is (suc k) its =
    let high = its.high in
    rw one (by_test ws m new pid op below is k (omega (arith, high)) (eqb_tells (suc m) (suc k)))
