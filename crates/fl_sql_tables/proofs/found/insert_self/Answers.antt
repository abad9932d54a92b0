use Rattle.sqlite.specs.Held.{state}
use Rattle.fl_sql_tables.proofs.Starting.{starts_self}
use Rattle.fl_sql_tables.proofs.FailLemmas.{handed_on}
use Rattle.fl_sql_tables.proofs.FoundLemmas.{start_fault}
use Rattle.fl_sql_tables.proofs.found.insert_self.Goals as goal

pub returns-clause-ok : goal.returns-clause-ok
returns-clause-ok g c clean inside has none =
    let ran = c.in_ok-execute.ensures.runs clean inside in
    starts_self (state g.S.Store c.args.tx.now.conn.now) (state g.S.Store c.execute.new.self.conn.now) c.args.number c.in_ok-execute.field-0 has none (rw c.params-to_sql.ensures at ran)

pub returns-in_err-execute-clause-fails : goal.returns-in_err-execute-clause-fails
returns-in_err-execute-clause-fails g c clean inside has is_open =
    let ran = c.in_err-execute.ensures.runs clean inside in
    handed_on _ _ _ c.from_residual.ensures.1 (start_fault (state g.S.Store c.args.tx.now.conn.now) (state g.S.Store c.execute.new.self.conn.now) c.args.number has is_open _ (rw c.params-to_sql.ensures at ran))
