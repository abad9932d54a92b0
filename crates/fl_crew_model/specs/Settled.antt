-- What the workers and the registrar promise of a batch before their entries and the record are
-- compared.
use Rattle.std.specs.Prelude.{ℕ, ◌+◌, ◌-◌, List, [], ◌∷◌}
use Rattle.std.specs.List.{slice_get}
use Rattle.std.specs.declared.option.Option.{Option}
use Rattle.std.specs.declared.option.Option.TheVariants.{None, Some}
use Rattle.fl_bench.specs.Bench.{BenchState}
use Rattle.fl_crew_model.specs.declared.record.Entry.{Entry}
use Rattle.fl_crew_model.specs.declared.record.Deed.{Deed}
use Rattle.fl_crew_model.specs.declared.settle.Queue.{Queue}
use Rattle.fl_crew_model.specs.Served.{Served}
use Rattle.fl_crew_model.specs.Compared.{Agrees, decisions_of}
use Rattle.fl_crew_model.specs.Books.{Books, Recorded}
use Rattle.fl_crew_model.specs.Crews.{IsWorker, AllHome}

-- the entries of a queue, if there is one
abbrev pub items_of : Option Queue → List Entry
items_of None = []
items_of (Some q) = q.entries.items

-- the entries of worker w, from 1 on
abbrev pub queue_of : List Queue → ℕ → List Entry
queue_of qs w = items_of (slice_get qs (w - 1))

-- the workers' own steps, and the registrar's
pub record IsWorked (number workers : ℕ) (b b' : Books) (rs : List Deed) (old new : ℕ → BenchState)
    (es : ℕ → List Entry) : Type 0 where
  pub recorded : Recorded number b rs b'
  pub served : (w : ℕ) → IsWorker workers w → Served b'.list (old w) (es w) (new w)
  pub homes : (w : ℕ) → IsWorker workers w → AllHome workers w (es w)

-- the entries of each worker, from this one on, agree with the record; each has to have seen the
-- first `first` elements of the list
abbrev pub AllAgree : ℕ → ℕ → List Deed → List Queue → Type 0
AllAgree first w rs [] = Unit {0}
AllAgree first w rs (q ∷ qs) =
    (last : ℕ) × Agrees first (decisions_of w rs) q.entries.items last
    × AllAgree first (w + 1) rs qs
