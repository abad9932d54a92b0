-- The node that a crew stands for between batches.
use Rattle.std.specs.Prelude.{◌≡◌, ℕ, false, length}
use Rattle.std.specs.declared.option.Option.{Option}
use Rattle.std.specs.declared.option.Option.TheVariants.{None, Some}
use Rattle.fl_store.specs.Custody.{Custody}
use Rattle.fl_store.specs.Kept.{Kept}
use Rattle.fl_system.specs.declared.state.Batch.{Batch}
use Rattle.fl_system.specs.declared.state.Pending.TheVariants.{Due, Nothing}
use Rattle.fl_system.specs.declared.state.State.{State}
use Rattle.fl_system.specs.declared.state.State.TheVariants.{Running}
use Rattle.fl_system.specs.Numbered.{items_to}
use Rattle.fl_system.specs.State.{NodeState}
use Rattle.fl_crew_model.specs.Crews.{IsCrew}
use Rattle.fl_workers.specs.Over.{CrewOver, bench_at, books_of}

-- it runs, and this is due, or nothing is pending
abbrev pub resting : Option Batch → State
resting None = Running Nothing
resting (Some batch) = Running (Due batch)

-- the registrar's node, which has published what the desks may see, with a desk and a bench for each
-- worker
abbrev pub stood_by : {K : Type 0} → CrewOver K → NodeState
stood_by c =
    record c.node.node {
      published = c.list;
      views = items_to c.size (λ w. length c.list);
      state = resting c.due;
      procs = c.procs;
      benches = c.benches;
    }

-- that node is a crew's, with these books and benches
abbrev pub IsCrewNode : {K : Type 0} → CrewOver K → Type 0
IsCrewNode c =
    IsCrew c.node.node.number c.size (stood_by c) (books_of c) (bench_at c.benches)
    (λ w. length c.list)

-- so it is where the crew is not stopped, and its keeper is honest, whatever may be found of it
abbrev pub Stands : {K : Type 0} → Custody K → CrewOver K → Type 0
Stands custody c =
    c.stopped ≡ false → custody.is_honest c.node.keeper → (k : Kept)
    → custody.may_hold c.node.keeper k → IsCrewNode c
