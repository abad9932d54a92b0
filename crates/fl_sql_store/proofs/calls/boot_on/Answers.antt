use Rattle.std.proofs.Common.{◌<◌, inl, inr, ap, Err, arith}
use Rattle.sqlite.specs.Held.{state}
use Rattle.sqlite.specs.State.{HasCleanDisk}
use Rattle.fl_sql_tables.proofs.QueryLemmas.{runs_out_then, kept_if_same}
use Rattle.fl_sql_store.proofs.KeepLemmas.{survives_raising, clean_before}
use Rattle.fl_sql_store.proofs.CauseLemmas.{boot_fault, not_last, undone_after}
use Rattle.fl_sql_store.proofs.calls.boot_on.Goals as goal

pub returns-in-Err-raise_boot-clause-survives : goal.returns-in-Err-raise_boot-clause-survives
returns-in-Err-raise_boot-clause-survives g c was one =
    let old = state g.S.Store c.args.conn.now in
    let read = state g.S.Store c.read_boot.new.conn in
    let raised = state g.S.Store c.raise_boot.new.conn in
    let new = state g.S.Store c.fault_of-in-Err-raise_boot.new.conn in
    survives_raising c.args.number was c.in-Ok.boot old read raised new one c.read_boot.ensures.survives c.in-Ok.ensures.ok (λ (clean : HasCleanDisk read). (c.in-Ok.ensures.same clean).0.now_is)
    c.raise_boot.ensures.survives c.fault_of-in-Err-raise_boot.ensures.survives

pub returns-in-Err-clause-fails : goal.returns-in-Err-clause-fails
returns-in-Err-clause-fails g c clean differs =
    let left = state g.S.Store c.read_boot.new.conn in
    let new = state g.S.Store c.fault_of.new.conn in
    let late = clean_before left new _ c.fault_of.ensures.survives clean in
    record {
      left = c.read_boot.new.conn;
      error = c.in-Err.error;
      cause = inl (c.in-Err.ensures.fails late);
      undone = c.in-Err.ensures.err late;
      out = λ is. c.in-Err.ensures.wants late (ap Err is);
      told = c.fault_of.ensures.told clean;
      keeps = c.fault_of.ensures.keeps;
      kept = c.fault_of.ensures.kept clean;
      survives = c.fault_of.ensures.survives;
    }

pub returns-in-Err-raise_boot-clause-fails : goal.returns-in-Err-raise_boot-clause-fails
returns-in-Err-raise_boot-clause-fails g c clean differs =
    let old = state g.S.Store c.args.conn.now in
    let read = state g.S.Store c.read_boot.new.conn in
    let left = state g.S.Store c.raise_boot.new.conn in
    let new = state g.S.Store c.fault_of-in-Err-raise_boot.new.conn in
    let late = clean_before left new _ c.fault_of-in-Err-raise_boot.ensures.survives clean in
    let before = clean_before read left _ c.raise_boot.ensures.survives late in
    let below : c.in-Ok.boot < 4294967295 = omega arith in
    record {
      left = c.raise_boot.new.conn;
      error = c.in-Err-raise_boot.error;
      cause = boot_fault c.args.number old read left c.in-Ok.boot _ below (c.in-Ok.ensures.ok before) (c.in-Ok.ensures.same before) c.read_boot.ensures.survives (c.in-Err-raise_boot.ensures.fails late);
      undone =
          undone_after old read left (c.in-Ok.ensures.same before)
          (c.in-Err-raise_boot.ensures.err late);
      out =
          λ is. runs_out_then old read left (kept_if_same old read (c.in-Ok.ensures.same before))
          (c.in-Err-raise_boot.ensures.wants late (ap Err is));
      told = c.fault_of-in-Err-raise_boot.ensures.told clean;
      keeps = c.fault_of-in-Err-raise_boot.ensures.keeps;
      kept = c.fault_of-in-Err-raise_boot.ensures.kept clean;
      survives = c.fault_of-in-Err-raise_boot.ensures.survives;
    }

pub returns-in-Err-clause-last : goal.returns-in-Err-clause-last
returns-in-Err-clause-last g c clean spent =
    let left = state g.S.Store c.read_boot.new.conn in
    let new = state g.S.Store c.fault_of.new.conn in
    let late = clean_before left new _ c.fault_of.ensures.survives clean in
    inr (record {
      left = c.read_boot.new.conn;
      error = c.in-Err.error;
      cause = c.in-Err.ensures.fails late;
      undone = c.in-Err.ensures.err late;
      out = λ is. c.in-Err.ensures.wants late (ap Err is);
      told = c.fault_of.ensures.told clean;
      keeps = c.fault_of.ensures.keeps;
      kept = c.fault_of.ensures.kept clean;
      survives = c.fault_of.ensures.survives;
    })

pub returns-in-Ok-raise_boot-clause-last : goal.returns-in-Ok-raise_boot-clause-last
returns-in-Ok-raise_boot-clause-last g c clean spent =
    let read = state g.S.Store c.read_boot.new.conn in
    let new = state g.S.Store c.raise_boot.new.conn in
    let before = clean_before read new _ c.raise_boot.ensures.survives clean in
    let below : c.in-Ok.boot < 4294967295 = omega arith in
    absurd (not_last c.args.number c.in-Ok.boot _ below (c.in-Ok.ensures.ok before) spent)

pub returns-in-Err-raise_boot-clause-last : goal.returns-in-Err-raise_boot-clause-last
returns-in-Err-raise_boot-clause-last g c clean spent =
    let read = state g.S.Store c.read_boot.new.conn in
    let left = state g.S.Store c.raise_boot.new.conn in
    let new = state g.S.Store c.fault_of-in-Err-raise_boot.new.conn in
    let late = clean_before left new _ c.fault_of-in-Err-raise_boot.ensures.survives clean in
    let before = clean_before read left _ c.raise_boot.ensures.survives late in
    let below : c.in-Ok.boot < 4294967295 = omega arith in
    absurd (not_last c.args.number c.in-Ok.boot _ below (c.in-Ok.ensures.ok before) spent)

pub returns-in-Err-clause-spares : goal.returns-in-Err-clause-spares
returns-in-Err-clause-spares g c differs = c.fault_of.ensures.spares (λ is. differs (ap Err is))

pub returns-in-Err-raise_boot-clause-spares : goal.returns-in-Err-raise_boot-clause-spares
returns-in-Err-raise_boot-clause-spares g c differs = c.fault_of-in-Err-raise_boot.ensures.spares (λ is. differs (ap Err is))
