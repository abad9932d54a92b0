use Rattle.std.proofs.Common.{ap, Err}
use Rattle.sqlite.specs.Held.{state}
use Rattle.fl_sql_store.proofs.KeepLemmas.{clean_before}
use Rattle.fl_sql_store.proofs.calls.save_on.Goals as goal

pub returns-in-Err-clause-fails : goal.returns-in-Err-clause-fails
returns-in-Err-clause-fails g c clean ours is_open =
    let left = state g.S.Store c.save_ops.new.conn in
    let new = state g.S.Store c.fault_of.new.conn in
    let late = clean_before left new _ c.fault_of.ensures.survives clean in
    record {
      left = c.save_ops.new.conn;
      error = c.in-Err.error;
      cause = c.in-Err.ensures.fails late ours is_open;
      undone = c.in-Err.ensures.err late ours;
      out = λ is. c.in-Err.ensures.wants late ours (ap Err is);
      told = c.fault_of.ensures.told clean;
      keeps = c.fault_of.ensures.keeps;
      kept = c.fault_of.ensures.kept clean;
      survives = c.fault_of.ensures.survives;
    }

pub returns-in-Err-clause-spares : goal.returns-in-Err-clause-spares
returns-in-Err-clause-spares g c differs = c.fault_of.ensures.spares (λ is. differs (ap Err is))
