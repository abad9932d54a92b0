-- What was done under a front of a list was done under the list.
use Rattle.std.proofs.Common.{◌≡◌, ℕ, ◌≤◌, List, [], ◌∷◌, length, take, sym, ap, ◌∙◌, subst, arith}
use Rattle.std.proofs.lemmas.List.{length-take, take-take}
use Rattle.std.proofs.Math.Seq.{take-length}
use Rattle.fl_labels.specs.SetBy.{of_list, members}
use Rattle.fl_ops.specs.OpOrder.{op_cmp}
use Rattle.fl_ops.specs.Registry.{Listed}
use Rattle.fl_ops.specs.declared.op.Op.{Op}
use Rattle.fl_replica.specs.Boards.{StartsWith}
use Rattle.fl_bench.specs.Bench.{BenchState}
use Rattle.fl_crew_model.specs.Served.{IsServed, Served, Serves}
use Rattle.fl_crew_model.specs.declared.record.Entry.{Entry}
use Rattle.fl_worker.specs.Stops.{StopsAt, IsStopAt, AreUndone}

module _ {A : Type 0} where
  -- a front is no longer
  pub starts_length : (xs f : List A) → StartsWith xs f → length f ≤ length xs
  starts_length xs f e = omega (arith, ap length e, length-take (length f) xs)

  pub starts_whole : (xs : List A) → StartsWith xs xs
  starts_whole xs = take-length xs

  pub starts_trans : (xs ys zs : List A) → StartsWith xs ys → StartsWith ys zs → StartsWith xs zs
  starts_trans xs ys zs a b =
      let fits = starts_length ys zs b in
      sym (take-take (length zs) (length ys) xs fits) ∙ (ap (take (length zs)) a ∙ b)

  -- the first n of a front are the first n of the list
  pub take_start : (xs f : List A) (n : ℕ) → StartsWith xs f → n ≤ length f → take n f ≡ take n xs
  take_start xs f n e fits = ap (take n) (sym e) ∙ take-take n (length f) xs fits

module _ (xs f : List Op) (starts : StartsWith xs f) where
  fits : (n : ℕ) → n ≤ length f → n ≤ length xs
  fits n low = let all = starts_length xs f starts in omega arith

  one_longer : (b : BenchState) (e : Entry) (b' : BenchState) → IsServed f b e b'
      → IsServed xs b e b'
  one_longer b e b' s = record {
    seen = fits e.seen s.seen;
    serves = subst
        (λ (l : List Op).
        Serves (Listed (members (of_list {R = op_cmp} l))) b e.job.value e.told e.ruling b')
        (take_start xs f e.seen starts s.seen) s.serves;
  }

  pub served_longer : (b : BenchState) (es : List Entry) (b' : BenchState) → Served f b es b'
      → Served xs b es b'
  served_longer b [] b' s = s
  served_longer b (e ∷ es) b' s =
      (s.0, one_longer b e s.0 s.1, served_longer s.0 es b' s.2)

  stop_longer : (b : BenchState) (e : Entry) → IsStopAt f b e → IsStopAt xs b e
  stop_longer b e s = record {
    seen = fits e.seen s.seen;
    stops = subst (λ (l : List Op). StopsAt (Listed (members (of_list {R = op_cmp} l))) b e)
        (take_start xs f e.seen starts s.seen) s.stops;
  }

  pub undone_longer : (b : BenchState) (es : List Entry) → AreUndone f b es → AreUndone xs b es
  undone_longer b [] s = s
  undone_longer b (e ∷ es) s = (stop_longer b e s.0, s.1)
