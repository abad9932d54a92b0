use Rattle.std.proofs.Common.{[]}
use Rattle.fl_sql_tables.proofs.QueryLemmas.{kept_if_same}
use Rattle.fl_sql_store.proofs.CauseLemmas.{kept_if_not_run}
use Rattle.fl_sql_store.proofs.fault.fault_of.Goals as goal
use Rattle.fl_sql_store.proofs.fault.fault_of.Goals.{in-Ok, in-Err}

pub returns-clause-kept : goal.returns-clause-kept
returns-clause-kept g c clean = elim c.match-prepare.branch [
  | in-Ok w ↦ kept_if_same _ _ (w.in-Ok.ensures.ok clean).1
  | in-Err w ↦ kept_if_not_run _ _ _ [] _ (w.in-Err.ensures.err clean [])
]
