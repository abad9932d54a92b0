-- What contracts see of a crew.
use Rattle.std.specs.Prelude.{ℕ, Bool, List, ◌++◌, refl}
use Rattle.std.specs.Coded.{Coded, code_by, coded×, coded_ℕ, coded_bool, coded_list}
use Rattle.std.specs.Coded.{coded_option}
use Rattle.std.specs.declared.option.Option.{Option}
use Rattle.std.specs.declared.option.Option.TheVariants.{None, Some}
use Rattle.fl_ops.specs.OpLaws.{coded_op}
use Rattle.fl_ops.specs.declared.op.Op.{Op}
use Rattle.fl_bench.specs.Bench.{BenchState, new_bench, coded_state}
use Rattle.fl_system.specs.contracts.state.Batch as batch_row
use Rattle.fl_system.specs.declared.state.Batch.{Batch}
use Rattle.fl_system.specs.Numbered.{item_at}
use Rattle.fl_system.specs.State.{ops_in}
use Rattle.fl_node.specs.Over.{NodeOver, coded_over}
use Rattle.fl_crew_model.specs.contracts.record.FailedOrder as failed_row
use Rattle.fl_crew_model.specs.declared.record.FailedOrder.{FailedOrder}
use Rattle.fl_crew_model.specs.Books.{Books}
use Rattle.fl_manning.specs.Begun.{benches_after}

pub record CrewOver (K : Type 0) : Type 0 where
  -- the registrar's
  pub node : NodeOver K
  -- what its desks may see
  pub list : List Op
  -- what is saved, and not yet in that list
  pub due : Option Batch
  -- of each worker, from the first one on
  pub benches : List BenchState
  -- the place of the bench that makes the next process
  pub procs : ℕ
  -- how many workers it has, or is to have where it is stopped
  pub size : ℕ
  -- the order of the last batch at which its keeper broke, if it did at one
  pub failed : Option FailedOrder
  pub stopped : Bool

-- what is saved and published
abbrev pub books_of : {K : Type 0} → CrewOver K → Books
books_of c = record { saved = c.node.node.saved; list = c.list; due = c.due }

-- the bench, or an empty one where there is none
abbrev pub bench_in : Option BenchState → BenchState
bench_in None = new_bench 1 1 1 1
bench_in (Some b) = b

-- the bench of the worker of this number
abbrev pub bench_at : List BenchState → ℕ → BenchState
bench_at bs w = bench_in (item_at bs w)

-- ---- once what was due is published

abbrev pub begun_books : {K : Type 0} → CrewOver K → Books
begun_books c = record { saved = c.node.node.saved; list = c.list ++ ops_in c.due; due = None }

abbrev pub begun_benches : {K : Type 0} → CrewOver K → ℕ → BenchState
begun_benches c w = benches_after (bench_at c.benches) c.due w

-- it is stored as the tuple of its fields
abbrev pub coded_crew : {K : Type 0} → Coded K → Coded (CrewOver K)
coded_crew {K} keeper =
    code_by
    (NodeOver K × (List Op × (Option Batch
    × (List BenchState × (ℕ × (ℕ × (Option FailedOrder × Bool)))))))
    (coded× (coded_over keeper) (coded× (coded_list coded_op)
    (coded× (coded_option (batch_row.the_row).coded)
    (coded× (coded_list coded_state) (coded× coded_ℕ
    (coded× coded_ℕ (coded× (coded_option (failed_row.the_row).coded) coded_bool)))))))
    (λ c. (c.node, (c.list, (c.due, (c.benches, (c.procs, (c.size, (c.failed, c.stopped))))))))
    (λ t. record {
      node = t.0;
      list = t.1.0;
      due = t.1.1.0;
      benches = t.1.1.1.0;
      procs = t.1.1.1.1.0;
      size = t.1.1.1.1.1.0;
      failed = t.1.1.1.1.1.1.0;
      stopped = t.1.1.1.1.1.1.1;
    })
    (λ _. refl)
