use Rattle.sqlite.specs.Held.{state}
use Rattle.fl_sql_tables.proofs.MigrateLemmas.{drops_ops, drop_fault}
use Rattle.fl_sql_tables.proofs.FailLemmas.{handed_on}
use Rattle.fl_sql_tables.proofs.migrate.drop_ops.Goals as goal

pub returns-clause-ok : goal.returns-clause-ok
returns-clause-ok g c clean inside has =
    let ran = c.in_ok-execute.ensures.runs clean inside in
    drops_ops (state g.S.Store c.args.tx.now.conn.now) (state g.S.Store c.execute.new.self.conn.now) c.in_ok-execute.field-0 has ran

pub returns-in_err-execute-clause-fails : goal.returns-in_err-execute-clause-fails
returns-in_err-execute-clause-fails g c clean inside has is_open =
    let ran = c.in_err-execute.ensures.runs clean inside in
    handed_on _ _ _ c.from_residual.ensures.1 (drop_fault (state g.S.Store c.args.tx.now.conn.now) (state g.S.Store c.execute.new.self.conn.now) has is_open _ ran)
