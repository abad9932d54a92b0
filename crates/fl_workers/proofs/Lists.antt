-- Workers in a list, and what is mapped over them.
use Rattle.std.proofs.Common.{◌≡◌, ◌∙◌, ℕ, zero, suc, ◌<◌, List, [], ◌∷◌, All, map, length, get_or, refl, ap, arith}
use Rattle.logbook.specs.Pages.{Book}
use Rattle.fl_settling.specs.Each.{Each}
use Rattle.fl_settling.specs.Numbers.{AreNumbered, bench_by}
use Rattle.fl_worker.specs.declared.worker.Worker.{Worker}
use Rattle.fl_workers.specs.Over.{bench_at}
use Rattle.fl_workers.specs.Seats.{bench_of_worker}

-- what is mapped over two lists is the same where it is at each place
pub map_kept : {A B : Type 0} (f : A → B) (old new : List A) → length new ≡ length old
    → ((k : ℕ) (d : A) → k < length old → f (get_or new k d) ≡ f (get_or old k d))
    → map f new ≡ map f old
map_kept f [] [] count at = refl
map_kept f [] (y ∷ ys) count at = absurd (omega (arith, count))
map_kept f (x ∷ xs) [] count at = absurd (omega (arith, count))
map_kept f (x ∷ xs) (y ∷ ys) count at =
    let here : f y ≡ f x = at 0 x (omega arith) in
    let rest = map_kept f xs ys (omega (arith, count)) (λ k d h. at (suc k) d (omega (arith, h))) in
    cc

pub bench_same : (ws : List Worker) (w : ℕ) → bench_by ws w ≡ bench_at (map bench_of_worker ws) w
bench_same [] w = refl
bench_same (x ∷ ws) zero = refl
bench_same (x ∷ ws) (suc zero) = refl
bench_same (x ∷ ws) (suc (suc k)) = bench_same ws (suc k)

-- ---- from one list to another

module _ (R : Worker → Worker → Type 0) (old new : List Worker) (each : Each R old new) where
  pub numbers_kept : ((v w : Worker) → R v w → w.number ≡ v.number) → AreNumbered old
      → AreNumbered new
  numbers_kept number numbered k d below =
      let within : k < length old = omega (arith, each.count, below) in
      number (get_or old k d) (get_or new k d) (each.at k d within) ∙ numbered k d within

  pub boards_kept : (board : Book) → ((v w : Worker) → R v w → w.desk.board ≡ v.desk.board)
      → All (λ w. w.desk.board ≡ board) old → All (λ w. w.desk.board ≡ board) new
  boards_kept board same boards k d below =
      let within : k < length old = omega (arith, each.count, below) in
      same (get_or old k d) (get_or new k d) (each.at k d within) ∙ boards k d within

  pub benches_kept : ((v w : Worker) → R v w → w.bench ≡ v.bench)
      → map bench_of_worker new ≡ map bench_of_worker old
  benches_kept bench =
      map_kept bench_of_worker old new each.count
      (λ k d h. bench (get_or old k d) (get_or new k d) (each.at k d h))
