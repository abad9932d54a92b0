use Rattle.fl_noninterference_laws.proofs.Runs.{runs_too, each_runs}
use Rattle.fl_noninterference_laws.proofs.Safe.{goes_safe}
use Rattle.fl_noninterference_laws.proofs.laws.law_noninterference.Goals as goal

pub returns-clause-purged : goal.returns-clause-purged
returns-clause-purged c = λ tag desks number old other new doings safe alike guards
    run. runs_too tag desks number old other new doings safe alike guards run

pub returns-clause-runs : goal.returns-clause-runs
returns-clause-runs c = λ tag desks number old other new last doings others both.
    each_runs tag both

pub returns-clause-safe : goal.returns-clause-safe
returns-clause-safe c = λ desks number old mid d safe goes. goes_safe safe goes
