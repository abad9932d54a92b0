-- What a batch did is one run.
use Rattle.std.proofs.Common.{◌≡◌, ℕ, ◌+◌, List, [], ◌++◌, length, Option, Some, None, refl, sym, subst}
use Rattle.std.proofs.lemmas.List.{append-nil}
use Rattle.fl_ops.specs.declared.op.Op.{Op}
use Rattle.fl_bench.specs.Bench.{BenchState}
use Rattle.fl_system.specs.declared.state.Batch.{Batch}
use Rattle.fl_system.specs.State.{NodeState, ops_in, ops_of}
use Rattle.fl_crew_model.specs.declared.record.Decision.{Decision}
use Rattle.fl_crew_model.specs.declared.record.Deed.{Deed}
use Rattle.fl_crew_model.specs.declared.record.Entry.{Entry}
use Rattle.fl_crew_model.specs.Books.{Books}
use Rattle.fl_crew_model.specs.Crews.{IsWorker, IsCrew, IsFront, IsBatch, IsWeave, IsCleared, Promises}
use Rattle.fl_workers.specs.Batches.{Clears}
use Rattle.fl_manning.specs.Begun.{benches_after}

-- what a law of crews says
abbrev pub Weaves : Type 0
Weaves =
    (number workers : ℕ) (n : NodeState) (b b' : Books) (rs : List Deed)
    (old new : ℕ → BenchState) (es : ℕ → List Entry) (first last : ℕ → ℕ)
    → IsCrew number workers n b old first → IsBatch number workers b b' rs old new es last
    → IsWeave number workers n rs es b' new last

abbrev pub ClearsFirst : Type 0
ClearsFirst =
    (number workers : ℕ) (n : NodeState) (b : Books) (old : ℕ → BenchState) (first : ℕ → ℕ)
    (batch : Batch) → IsCrew number workers n b old first → b.due ≡ Some batch
    → IsCleared number workers n b old batch

-- the books once what was due is published
abbrev begun : Books → Books
begun b = record { saved = b.saved; list = b.list ++ ops_in b.due; due = None }

-- the node then
pub record Begins (number workers : ℕ) (n : NodeState) (b : Books) (old : ℕ → BenchState)
    : Type 0 where
  pub node : NodeState
  pub clears : Clears n b.due node
  pub first : ℕ → ℕ
  pub crew : IsCrew number workers node (begun b) (benches_after old b.due) first

module _ (clears_first : ClearsFirst) (number workers : ℕ) (n : NodeState) (b : Books)
    (old : ℕ → BenchState) (first : ℕ → ℕ) (crew : IsCrew number workers n b old first) where
  by_due : (due : Option Batch) → b.due ≡ due → Begins number workers n b old
  by_due None is = record {
    node = n;
    clears = subst (λ (d : Option Batch). Clears n d n) (sym is) refl;
    first = first;
    crew =
        subst (λ (d : Option Batch). IsCrew number workers n
        (record { saved = b.saved; list = b.list ++ ops_in d; due = None }) (benches_after old d) first)
        (sym is)
        (subst (λ (l : List Op). IsCrew number workers n
        (record { saved = b.saved; list = l; due = None }) old first)
        (sym (append-nil b.list))
        (subst (λ (d : Option Batch). IsCrew number workers n
        (record { saved = b.saved; list = b.list; due = d }) old first) is crew));
  }
  by_due (Some batch) is =
      let it = clears_first number workers n b old first batch crew is in
      record {
        node = it.node;
        clears = subst (λ (d : Option Batch). Clears n d it.node) (sym is) it.publishes;
        first = λ w. length b.list + length (ops_of batch);
        crew =
            subst (λ (d : Option Batch). IsCrew number workers it.node
            (record { saved = b.saved; list = b.list ++ ops_in d; due = None }) (benches_after old d) (λ w. length b.list + length (ops_of batch)))
            (sym is) it.crew;
      }

  pub begins : Begins number workers n b old
  begins = by_due b.due refl

-- a front with nothing left over, and with these benches, is a batch
pub whole_batch : (number workers : ℕ) (b b' : Books) (rs : List Deed)
    (old benches new : ℕ → BenchState) (es : ℕ → List Entry) (last : ℕ → ℕ) (left : ℕ → List Decision)
    → IsFront number workers b b' rs old benches es last left
    → ((w : ℕ) → IsWorker workers w → (left w ≡ []) × (benches w ≡ new w))
    → IsBatch number workers b b' rs old new es last
whole_batch number workers b b' rs old benches new es last left front whole = record {
  recorded = front.recorded;
  of_workers = front.of_workers;
  promises = λ w is_one.
      let is = whole w is_one in
      subst
      (λ (l : List Decision). Promises workers (length b.list) b'.list rs w (old w) (new w) (es w)
      (last w) l) is.0
      (subst
      (λ (x : BenchState). Promises workers (length b.list) b'.list rs w (old w) x (es w)
      (last w) (left w)) is.1 (front.promises w is_one));
}
