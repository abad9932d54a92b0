-- A crew before its first batch.
use Rattle.std.specs.Prelude.{◌≡◌, ◌⊎◌, ℕ, Bool, false, length}
use Rattle.std.specs.declared.option.Option.TheVariants.{None}
use Rattle.std.specs.declared.result.Result.{Result}
use Rattle.std.specs.declared.result.Result.TheVariants.{Ok, Err}
use Rattle.fl_bench.specs.Bench.{new_bench}
use Rattle.fl_jobs.specs.declared.answer.Refusal.TheVariants.{Memory}
use Rattle.fl_node.specs.Causes.{KeeperFails}
use Rattle.fl_node.specs.Over.{NodeOver}
use Rattle.fl_registrar.specs.Passing.{Passes}
use Rattle.fl_store.specs.Breaking.{IsLeftBroken}
use Rattle.fl_store.specs.Custody.{Custody}
use Rattle.fl_store.specs.Kept.{Kept}
use Rattle.fl_system.specs.declared.answer.Fault.{Fault}
use Rattle.fl_system.specs.declared.answer.Fault.TheVariants.{Refused}
use Rattle.fl_system.specs.Numbered.{items_to}
use Rattle.fl_system.specs.Openings.{Opens, IsOf, Restarts, opened}
use Rattle.fl_system.specs.State.{NodeState}
use Rattle.fl_crew_model.specs.Crews.{IsCrew}
use Rattle.fl_workers.specs.Over.{CrewOver, books_of, bench_at}

-- The crew of a node with so many workers: its desks may see what the node has published, nothing is
-- due, and there is no process.
abbrev pub seated_of : {K : Type 0} → NodeOver K → ℕ → CrewOver K
seated_of n size =
    record {
      node = n;
      list = n.node.published;
      due = None;
      benches = items_to size (λ index. new_bench n.node.number n.node.boot index size);
      procs = 0;
      size = size;
      failed = None;
      stopped = false;
    }

-- The registrar's node is opened so; with as many desks and benches as there are workers, the node
-- is a crew's.
pub record OpensCrew {K : Type 0} (number workers : ℕ) (k : Kept) (crew : CrewOver K) (k' : Kept)
    : Type 0 where
  pub opens : Opens 0 (IsOf number) k (Ok crew.node.node) k'
  pub crew_is : IsCrew number workers (opened workers k) (books_of crew) (bench_at crew.benches)
      (λ w. length crew.list)

-- why a crew is not opened: for want of memory, or since its node is not
abbrev pub NotOpened : {K : Type 0} → Custody K → ℕ → K → Fault → Type 0
NotOpened {K} custody number keeper fault =
    (fault ≡ Refused Memory)
    ⊎ ((left : K)
    × KeeperFails (IsLeftBroken custody keeper left) (custody.is_honest left)
    (custody.has_bad_row keeper) fault
    × Passes custody (λ k k'. Opens 0 (IsOf number) k (Err fault) k') keeper left)

-- The registrar's node is restarted so. For want of memory the crew is left stopped, also where the
-- node was opened.
abbrev pub RestartsCrew : NodeState → Bool → Result ℕ Fault → NodeState → Kept → Kept → Type 0
RestartsCrew n keeps result n' k k' =
    Restarts n k keeps result n' k'
    ⊎ ((result ≡ Err (Refused Memory)) × Restarts n k keeps (Ok n'.boot) n' k')

-- it is told what the opening was answered, or, where the node was opened, want of memory
abbrev pub IsToldOf : Result ℕ Fault → Result ℕ Fault → Type 0
IsToldOf opened told =
    (told ≡ opened) ⊎ ((told ≡ Err (Refused Memory)) × (boot : ℕ) × (opened ≡ Ok boot))
