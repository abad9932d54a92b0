use Rattle.std.proofs.Common.{ap, Err}
use Rattle.sqlite.specs.Held.{state}
use Rattle.fl_sql_store.proofs.KeepLemmas.{clean_before}
use Rattle.fl_sql_store.proofs.CauseLemmas.{load_told}
use Rattle.fl_sql_store.proofs.calls.load_on.Goals as goal

pub returns-in-Err-Failed-clause-refuses : goal.returns-in-Err-Failed-clause-refuses
returns-in-Err-Failed-clause-refuses g c clean =
    let left = state g.S.Store c.load_ops.new.conn in
    let new = state g.S.Store c.fault_of.new.conn in
    let late = clean_before left new _ c.fault_of.ensures.survives clean in
    let cause = rw c.in-Err-Failed.field-0-is at (c.in-Err-Failed.ensures.refuses late) in
    load_told g.S.Store c.args.conn.now c.fault_of.new.conn c.fault_of.new.why c.fault_of.result c.fault_of.ensures.either (record {
      left = c.load_ops.new.conn;
      error = _;
      cause = cause;
      undone = c.in-Err-Failed.ensures.err late;
      out = cause.1;
      told = c.fault_of.ensures.told clean;
      keeps = c.fault_of.ensures.keeps;
      kept = c.fault_of.ensures.kept clean;
      survives = c.fault_of.ensures.survives;
    })

pub returns-in-Err-Failed-clause-spares : goal.returns-in-Err-Failed-clause-spares
returns-in-Err-Failed-clause-spares g c differs = c.fault_of.ensures.spares (λ is. differs (ap Err is))
