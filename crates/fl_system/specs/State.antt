-- The state of a node.
use Rattle.std.specs.Prelude.{ℕ, List, [], ◌∷◌, take, refl}
use Rattle.std.specs.Coded.{Coded, code_by, coded×, coded_ℕ, coded_list}
use Rattle.std.specs.declared.option.Option.{Option}
use Rattle.std.specs.declared.option.Option.TheVariants.{None, Some}
use Rattle.fl_labels.specs.SetBy as set
use Rattle.fl_labels.specs.SetBy.{SetBy}
use Rattle.fl_ops.specs.declared.op.Op.{Op}
use Rattle.fl_ops.specs.OpOrder.{op_cmp}
use Rattle.fl_ops.specs.OpLaws.{coded_op}
use Rattle.fl_ops.specs.Registry.{Registry, Listed}
use Rattle.fl_bench.specs.Bench.{BenchState, coded_state}
use Rattle.fl_store.specs.Kept.{Kept}
use Rattle.fl_system.specs.declared.state.Batch.{Batch}
use Rattle.fl_system.specs.declared.state.Batch.TheVariants.{Ordered, Received}
use Rattle.fl_system.specs.declared.state.State.{State}
use Rattle.fl_system.specs.contracts.state.State as states_row

pub record NodeState : Type 0 where
  pub number : ℕ
  pub boot : ℕ
  pub saved : SetBy op_cmp
  -- each published operation, in the order of publishing
  pub published : List Op
  -- how many of these each desk sees, from desk 1 on
  pub views : List ℕ
  pub state : State
  -- how often a new process was asked for during this boot, modulo the benches
  pub procs : ℕ
  -- from bench 1 on
  pub benches : List BenchState

-- the first operations of a list, so many, as jobs look at them
abbrev pub first_ops : ℕ → List Op → Registry
first_ops v list = Listed (set.members (set.of_list {R = op_cmp} (take v list)))

-- the operations of a batch
abbrev pub ops_of : Batch → List Op
ops_of (Ordered op maker desk) = op ∷ []
ops_of (Received ops) = set.members ops

-- those of a batch that may be in doubt
abbrev pub ops_in : Option Batch → List Op
ops_in None = []
ops_in (Some batch) = ops_of batch

-- what is kept of a node that runs
abbrev pub kept_of : NodeState → Kept
kept_of n = record { number = n.number; boot = n.boot; saved = n.saved }

abbrev pub coded_published : Coded (List Op × (List ℕ × (State × (ℕ × List BenchState))))
coded_published =
    coded× (coded_list coded_op) (coded× (coded_list coded_ℕ)
    (coded× (states_row.the_row).coded (coded× coded_ℕ (coded_list coded_state))))

-- a state is stored as the tuple of its fields
abbrev pub coded_node : Coded NodeState
coded_node =
    code_by (ℕ × (ℕ × (SetBy op_cmp × (List Op × (List ℕ × (State × (ℕ × List BenchState)))))))
    (coded× coded_ℕ (coded× coded_ℕ (coded× (set.code coded_op) coded_published)))
    (λ n. (n.number, (n.boot, (n.saved, (n.published, (n.views, (n.state, (n.procs, n.benches))))))))
    (λ t. record {
      number = t.0;
      boot = t.1.0;
      saved = t.1.1.0;
      published = t.1.1.1.0;
      views = t.1.1.1.1.0;
      state = t.1.1.1.1.1.0;
      procs = t.1.1.1.1.1.1.0;
      benches = t.1.1.1.1.1.1.1;
    })
    (λ _. refl)
