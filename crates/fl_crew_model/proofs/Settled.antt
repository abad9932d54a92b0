-- What was compared and found to agree is one run.
use Rattle.std.proofs.Common.{◌≡◌, ℕ, zero, suc, ◌+◌, ◌-◌, ◌<◌, List, [], ◌∷◌, length, slice_get}
use Rattle.std.proofs.Common.{subst, arith}
use Rattle.fl_bench.specs.Bench.{BenchState}
use Rattle.fl_system.specs.State.{NodeState}
use Rattle.fl_crew_model.specs.declared.record.Deed.{Deed}
use Rattle.fl_crew_model.specs.declared.settle.Queue.{Queue}
use Rattle.fl_crew_model.specs.Compared.{Agrees, decisions_of}
use Rattle.fl_crew_model.specs.Books.{Books}
use Rattle.fl_crew_model.specs.Crews.{IsWorker, AllOfWorkers, IsCrew, IsWeave}
use Rattle.fl_crew_model.specs.Settled.{items_of, queue_of, IsWorked, AllAgree}
use Rattle.fl_crew_model.proofs.Weaving.{weave_of}

-- the worker's place in the list
last_at : (first w : ℕ) (rs : List Deed) (qs : List Queue) → AllAgree first w rs qs → ℕ → ℕ
last_at first w rs [] h i = 0
last_at first w rs (q ∷ qs) h zero = h.0
last_at first w rs (q ∷ qs) h (suc i) = last_at first (w + 1) rs qs h.2 i

agree_at : (first w : ℕ) (rs : List Deed) (qs : List Queue) (h : AllAgree first w rs qs) (i : ℕ)
    → i < length qs → Agrees first (decisions_of (w + i) rs) (items_of (slice_get qs i))
    (last_at first w rs qs h i)
unfolding last_at
agree_at first w rs [] h i below = absurd (omega arith)
agree_at first w rs (q ∷ qs) h zero below =
    let same : w ≡ w + 0 = omega arith in
    subst (λ (k : ℕ). Agrees first (decisions_of k rs) q.entries.items (h.0)) same h.1
agree_at first w rs (q ∷ qs) h (suc i) below =
    let same : (w + 1) + i ≡ w + suc i = omega arith in
    subst (λ (k : ℕ). Agrees first (decisions_of k rs) (items_of (slice_get qs i))
    (last_at first (w + 1) rs qs h.2 i)) same (agree_at first (w + 1) rs qs h.2 i (omega arith))

pub settled_weave : (first : ℕ) (rs : List Deed) (qs : List Queue) → AllOfWorkers (length qs) rs
    → AllAgree first 1 rs qs
    → (number : ℕ) (n : NodeState) (b b' : Books) (old new : ℕ → BenchState) (before : ℕ → ℕ)
    → first ≡ length b.list
    → IsCrew number (length qs) n b old before
    → IsWorked number (length qs) b b' rs old new (queue_of qs) → (last : ℕ → ℕ)
    × IsWeave number (length qs) n rs (queue_of qs) b' new last
settled_weave first rs qs of_workers agree number n b b' old new before same crew worked =
    let last : ℕ → ℕ = (λ w. last_at first 1 rs qs agree (w - 1)) in (
      last,
      weave_of number (length qs) n b b' rs old new (queue_of qs) before last crew (record {
        recorded = worked.recorded;
        of_workers = of_workers;
        promises = λ w is. record {
          served = worked.served w is;
          agrees = at w is;
          homes = worked.homes w is;
        };
      }),
    )
  where
    at : (w : ℕ) → IsWorker (length qs) w
        → Agrees (length b.list) (decisions_of w rs) (queue_of qs w)
        (last_at first 1 rs qs agree (w - 1))
    at w is =
        let low = is.low in
        let high = is.high in
        let here : 1 + (w - 1) ≡ w = omega arith in
        subst (λ (k : ℕ). Agrees k (decisions_of w rs) (queue_of qs w)
        (last_at first 1 rs qs agree (w - 1))) same
        (subst
        (λ (k : ℕ). Agrees first (decisions_of k rs) (queue_of qs w)
        (last_at first 1 rs qs agree (w - 1))) here
        (agree_at first 1 rs qs agree (w - 1) (omega arith)))
