use Rattle.sqlite.specs.Held.{state}
use Rattle.fl_sql_tables.proofs.StateLemmas.{clean_before}
use Rattle.fl_sql_tables.proofs.BootLemmas.{sets_boot}
use Rattle.fl_sql_tables.proofs.FailLemmas.{raise_fault, handed_on}
use Rattle.fl_sql_tables.proofs.boot.set_boot.Goals as goal

pub returns-clause-ok : goal.returns-clause-ok
returns-clause-ok g c clean inside =
    let old = state g.S.Store c.args.tx.now.conn.now in
    let new = state g.S.Store c.execute.new.self.conn.now in
    let ready = c.requires (clean_before old new _ c.execute.ensures.survives clean) in
    let ran = c.in_ok-execute.ensures.runs clean inside in
    sets_boot old new c.args.number c.args.boot c.in_ok-execute.field-0 ready (rw c.params-to_sql.ensures at ran)

pub returns-in_err-execute-clause-fails : goal.returns-in_err-execute-clause-fails
returns-in_err-execute-clause-fails g c clean inside =
    let old = state g.S.Store c.args.tx.now.conn.now in
    let new = state g.S.Store c.execute.new.self.conn.now in
    let ready = c.requires (clean_before old new _ c.execute.ensures.survives clean) in
    let ran = c.in_err-execute.ensures.runs clean inside in
    handed_on _ _ _ c.from_residual.ensures.1 (raise_fault old new c.args.boot ready.schema ready.is_open _ (rw c.params-to_sql.ensures at ran))
