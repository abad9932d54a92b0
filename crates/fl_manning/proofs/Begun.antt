-- How the workers of a batch begin.
use Rattle.std.proofs.Common.{◌≡◌, ◌∙◌, ℕ, zero, suc, ◌<◌, List, [], ◌∷◌, All, length, get_or, refl, sym, ap, subst, arith}
use Rattle.fl_ops.specs.declared.op.Op.{Op}
use Rattle.fl_bench.specs.Bench.{BenchState}
use Rattle.fl_replica.specs.Boards.{Front}
use Rattle.fl_dealing.specs.declared.dealing.Queue.{Queue}
use Rattle.fl_manning.specs.Changes.{IsStill, IsButBench, IsCaughtUp}
use Rattle.fl_crew_model.specs.Crews.{IsWorker}
use Rattle.fl_registrar.specs.Over.{RegistrarOver}
use Rattle.fl_settling.specs.Each.{Each}
use Rattle.fl_settling.specs.Numbers.{bench_by}
use Rattle.fl_system.specs.declared.state.Batch.{Batch}
use Rattle.fl_worker.specs.declared.worker.Worker.{Worker}
use Rattle.fl_worker.specs.Done.{IsReady}
use Rattle.std.specs.declared.option.Option.{Option}
use Rattle.fl_manning.specs.Begun.{AreBegun, benches_after}

-- ---- what stays

pub same_due : {K : Type 0} (a b : RegistrarOver K) → a ≡ b → a.due ≡ b.due
same_due {K} a b e = ap (λ (r : RegistrarOver K). r.due) e

bench_still : (old new : List Worker) → length new ≡ length old
    → ((k : ℕ) (d : Worker) → k < length old → (get_or new k d).bench ≡ (get_or old k d).bench)
    → (w : ℕ) → bench_by new w ≡ bench_by old w
bench_still [] [] count at w = refl
bench_still [] (y ∷ ys) count at w = absurd (omega (arith, count))
bench_still (x ∷ xs) [] count at w = absurd (omega (arith, count))
bench_still (x ∷ xs) (y ∷ ys) count at zero = refl
bench_still (x ∷ xs) (y ∷ ys) count at (suc zero) = at 0 x (omega arith)
bench_still (x ∷ xs) (y ∷ ys) count at (suc (suc k)) =
    bench_still xs ys (omega (arith, count)) (λ j d h. at (suc j) d (omega (arith, h))) (suc k)

benches_still : (R : Worker → Worker → Type 0) (old new : List Worker) → Each R old new
    → ((v w : Worker) → R v w → w.bench ≡ v.bench) → (w : ℕ) → bench_by new w ≡ bench_by old w
benches_still R old new each same =
    bench_still old new each.count
    (λ k d h. same (get_or old k d) (get_or new k d) (each.at k d h))

-- ---- how they begin

ready_kept : (v w : Worker) → w.tasks ≡ v.tasks → w.entries ≡ v.entries → w.good ≡ v.good → IsReady v
    → IsReady w
ready_kept v w tasks entries good ready = record {
  empty = rw entries ready.empty;
  none = good ∙ ready.none;
  room = rw (tasks, entries) ready.room;
}

module _ (queues : List Queue) (due : Option Batch) (list : List Op) (ws a b c : List Worker)
    (still : Each IsStill ws a) (finished : Each IsButBench a b) (caught : Each (IsCaughtUp list) b c)
  where
    count_a : length a ≡ length ws
    count_a = still.count

    count_b : length b ≡ length ws
    count_b = finished.count ∙ count_a

    count_c : length c ≡ length ws
    count_c = caught.count ∙ count_b

    ready_all : All IsReady a → All IsReady c
    ready_all ready k d below =
        let at_a : k < length a = omega (arith, below, count_c, count_a) in
        let at_b : k < length b = omega (arith, below, count_c, count_b) in
        let one = finished.at k d at_a in
        let two = caught.at k d at_b in
        ready_kept (get_or b k d) (get_or c k d) two.tasks two.entries two.good
        (ready_kept (get_or a k d) (get_or b k d) one.tasks one.entries one.good (ready k d at_a))

    tasks_all : ((k : ℕ) (d : Worker) (q : Queue) → k < length ws
        → (get_or a k d).tasks.items ≡ (get_or queues k q).tasks.items)
        → (k : ℕ) (d : Worker) (q : Queue) → k < length ws
        → (get_or c k d).tasks.items ≡ (get_or queues k q).tasks.items
    tasks_all given k d q below =
        let at_a : k < length a = omega (arith, below, count_a) in
        let at_b : k < length b = omega (arith, below, count_b) in
        let one = (finished.at k d at_a).tasks in
        let two = (caught.at k d at_b).tasks in
        let both : (get_or c k d).tasks ≡ (get_or a k d).tasks = two ∙ one in
        rw both (given k d q below)

    same_first : bench_by a ≡ bench_by ws
    same_first i w = benches_still IsStill ws a still (λ u v r. r.bench) w i

    same_last : (w : ℕ) → bench_by c w ≡ bench_by b w
    same_last w = benches_still (IsCaughtUp list) b c caught (λ u v r. r.bench) w

    pub are_begun : All IsReady a
        → ((k : ℕ) (d : Worker) (q : Queue) → k < length ws
        → (get_or a k d).tasks.items ≡ (get_or queues k q).tasks.items)
        → ((w : ℕ) → IsWorker (length a) w → bench_by b w ≡ benches_after (bench_by a) due w)
        → AreBegun queues due ws c
    are_begun ready given bench = record {
      ready = ready_all ready;
      tasks = tasks_all given;
      bench = λ w is_one.
          same_last w
          ∙ (bench w (subst (λ (n : ℕ). IsWorker n w) (sym count_a) is_one)
          ∙ ap (λ (f : ℕ → BenchState). benches_after f due w) same_first);
      at = record {
        count = count_c;
        at = λ k d below.
            let at_a : k < length a = omega (arith, below, count_a) in
            let at_b : k < length b = omega (arith, below, count_b) in
            let zero = still.at k d below in
            let one = finished.at k d at_a in
            let two = caught.at k d at_b in
            record {
              number = two.number ∙ (one.number ∙ zero.number);
              board = two.board ∙ ap (λ (x : Front). x.board) (one.desk ∙ zero.desk);
            };
      };
    }
