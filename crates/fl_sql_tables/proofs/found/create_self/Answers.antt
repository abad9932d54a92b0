use Rattle.sqlite.specs.Held.{state}
use Rattle.fl_sql_tables.proofs.Creates.{makes_self}
use Rattle.fl_sql_tables.proofs.FailLemmas.{handed_on}
use Rattle.fl_sql_tables.proofs.FoundLemmas.{self_fault}
use Rattle.fl_sql_tables.proofs.found.create_self.Goals as goal

pub returns-clause-ok : goal.returns-clause-ok
returns-clause-ok g c clean inside =
    let ran = c.in_ok-execute.ensures.runs clean inside in
    makes_self (state g.S.Store c.args.tx.now.conn.now) (state g.S.Store c.execute.new.self.conn.now) c.in_ok-execute.field-0 c.requires ran

pub returns-in_err-execute-clause-fails : goal.returns-in_err-execute-clause-fails
returns-in_err-execute-clause-fails g c clean inside is_open =
    let ran = c.in_err-execute.ensures.runs clean inside in
    handed_on _ _ _ c.from_residual.ensures.1 (self_fault (state g.S.Store c.args.tx.now.conn.now) (state g.S.Store c.execute.new.self.conn.now) c.requires is_open _ ran)
