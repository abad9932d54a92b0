-- What is so of the entries of a worker is so of a front of them, and where some are given up.
use Rattle.std.proofs.Common.{◌≡◌, ◌∙◌, ◌≤◌, ℕ, zero, suc, List, [], ◌∷◌, length, take, drop}
use Rattle.std.proofs.Common.{Option, map, refl, sym, ap, arith}
use Rattle.fl_ops.specs.declared.op.Op.{Op}
use Rattle.fl_bench.specs.Bench.{BenchState}
use Rattle.fl_crew_model.specs.declared.record.Entry.{Entry}
use Rattle.fl_crew_model.specs.declared.record.FailedOrder.{FailedOrder}
use Rattle.fl_crew_model.specs.Served.{Served}
use Rattle.fl_crew_model.specs.Crews.{AllHome, home_of}
use Rattle.fl_worker.specs.declared.task.Task.{Task}
use Rattle.fl_worker.specs.Seen.{Rises}
use Rattle.fl_worker.specs.Tasks.{AreOf}
use Rattle.fl_settling.specs.Cut.{given_up, given_up_from, AreGivenUp}
use Rattle.fl_settling.specs.Batches.{AreHome}

-- ---- a front

module _ (failed : Option FailedOrder) (w : ℕ) where
  pub take_cut : (n : ℕ) (es : List Entry) → take n (given_up_from failed w n es) ≡ take n es
  take_cut zero es = refl
  take_cut (suc n) [] = refl
  take_cut (suc n) (e ∷ es) = ap (λ l. e ∷ l) (take_cut n es)

  pub drop_cut : (n : ℕ) (es : List Entry)
      → drop n (given_up_from failed w n es) ≡ map (given_up failed w) (drop n es)
  drop_cut zero es = refl
  drop_cut (suc n) [] = refl
  drop_cut (suc n) (e ∷ es) = drop_cut n es

  -- where all are good nothing is given up
  pub none_cut : (n : ℕ) (es : List Entry) → length es ≤ n → given_up_from failed w n es ≡ es
  none_cut zero [] fits = refl
  none_cut zero (e ∷ es) fits = absurd (omega (arith, fits))
  none_cut (suc n) [] fits = refl
  none_cut (suc n) (e ∷ es) fits = ap (λ l. e ∷ l) (none_cut n es (omega (arith, fits)))

-- the steps of the first so many, which are all of them where there are no more
pub record FrontServed (list : List Op) (b : BenchState) (n : ℕ) (es : List Entry)
    (b' : BenchState) : Type 0 where
  pub mid : BenchState
  pub served : Served list b (take n es) mid
  pub whole : length es ≤ n → mid ≡ b'

pub front_served : (list : List Op) (n : ℕ) (es : List Entry) (b b' : BenchState)
    → Served list b es b'
    → FrontServed list b n es b'
front_served list zero [] b b' s = record { mid = b; served = refl; whole = λ h. sym s }
front_served list zero (e ∷ es) b b' s =
    record { mid = b; served = refl; whole = λ h. absurd (omega (arith, h)) }
front_served list (suc n) [] b b' s = record { mid = b; served = refl; whole = λ h. sym s }
front_served list (suc n) (e ∷ es) b b' (next, one, more) =
    let rest = front_served list n es next b' more in
    record {
      mid = rest.mid;
      served = (next, one, rest.served);
      whole = λ h. rest.whole (omega (arith, h));
    }

pub home_front : (workers w n : ℕ) (es : List Entry) → AllHome workers w es
    → AllHome workers w (take n es)
home_front workers w zero es h = tt
home_front workers w (suc n) [] h = tt
home_front workers w (suc n) (e ∷ es) h = (h.0, home_front workers w n es h.1)

-- ---- the tasks

pub home_of_tasks : (workers w : ℕ) (ts : List Task) (es : List Entry) → AreOf ts es
    → AreHome workers w ts
    → AllHome workers w es
home_of_tasks workers w [] [] of h = tt
home_of_tasks workers w [] (e ∷ es) of h = absurd of
home_of_tasks workers w (t ∷ ts) [] of h = absurd of
home_of_tasks workers w (t ∷ ts) (e ∷ es) of h = (
  ap (home_of workers w) of.0.job ∙ h 0 t (omega arith),
  home_of_tasks workers w ts es of.1 (λ k d below. h (suc k) d (omega arith)),
)

module _ (failed : Option FailedOrder) (w : ℕ) where
  of_given_up : (ts : List Task) (es : List Entry) → AreOf ts es
      → AreOf ts (map (given_up failed w) es)
  of_given_up [] [] of = tt
  of_given_up [] (e ∷ es) of = absurd of
  of_given_up (t ∷ ts) [] of = absurd of
  of_given_up (t ∷ ts) (e ∷ es) of =
      (record { place = of.0.place; job = of.0.job }, of_given_up ts es of.1)

  pub of_cut : (n : ℕ) (ts : List Task) (es : List Entry) → AreOf ts es
      → AreOf ts (given_up_from failed w n es)
  of_cut zero ts es of = of_given_up ts es of
  of_cut (suc n) [] [] of = tt
  of_cut (suc n) [] (e ∷ es) of = absurd of
  of_cut (suc n) (t ∷ ts) [] of = absurd of
  of_cut (suc n) (t ∷ ts) (e ∷ es) of = (of.0, of_cut n ts es of.1)

  -- ---- how much was seen

  rises_given_up : (low : ℕ) (es : List Entry) → Rises low es
      → Rises low (map (given_up failed w) es)
  rises_given_up low [] up = tt
  rises_given_up low (e ∷ es) up = (up.0, rises_given_up e.seen es up.1)

  pub rises_cut : (n low : ℕ) (es : List Entry) → Rises low es
      → Rises low (given_up_from failed w n es)
  rises_cut zero low es up = rises_given_up low es up
  rises_cut (suc n) low [] up = tt
  rises_cut (suc n) low (e ∷ es) up = (up.0, rises_cut n e.seen es up.1)

  -- ---- those that are given up

  pub all_given_up : (es : List Entry) → AreGivenUp failed w (map (given_up failed w) es)
  all_given_up [] k d below = absurd (omega arith)
  all_given_up (e ∷ es) zero d below = refl
  all_given_up (e ∷ es) (suc k) d below = all_given_up es k d (omega arith)

-- where less need be seen, as much is
pub rises_less : (low lower : ℕ) (es : List Entry) → lower ≤ low → Rises low es → Rises lower es
rises_less low lower [] less up = tt
rises_less low lower (e ∷ es) less up = (omega (arith, less, up.0), up.1)
