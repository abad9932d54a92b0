use Rattle.sqlite.specs.Held.{state}
use Rattle.fl_sql_tables.proofs.OpLemmas.{puts_one}
use Rattle.fl_sql_tables.proofs.FailLemmas.{put_fault, handed_on}
use Rattle.fl_sql_tables.proofs.put.put_op.Goals as goal

pub returns-clause-ok : goal.returns-clause-ok
returns-clause-ok g c clean inside ours =
    let ran = c.in_ok-execute.ensures.runs clean inside in
    puts_one (state g.S.Store c.args.tx.now.conn.now) (state g.S.Store c.execute.new.self.conn.now) c.args.op.now c.in_ok-execute.field-0 ours (rw (c.params-to_sql.ensures, c.params-to_sql-2.ensures, c.params-to_sql-3.ensures, c.as_slice.ensures.value, c.in_ok-bytes.ensures) at ran)

pub returns-in_err-execute-clause-fails : goal.returns-in_err-execute-clause-fails
returns-in_err-execute-clause-fails g c clean inside ours is_open =
    let ran = c.in_err-execute.ensures.runs clean inside in
    handed_on _ _ _ c.from_residual-in_err-execute.ensures.1 (put_fault (state g.S.Store c.args.tx.now.conn.now) (state g.S.Store c.execute.new.self.conn.now) c.args.op.now (ours is_open) is_open _ (rw (c.params-to_sql.ensures, c.params-to_sql-2.ensures, c.params-to_sql-3.ensures, c.as_slice.ensures.value, c.in_ok-bytes.ensures) at ran))
