use Rattle.std.proofs.Common.{◌≡◌}
use Rattle.sqlite.specs.State.{HasCleanDisk, IsUnchanged, Survives}
use Rattle.sqlite.specs.Held.{state}
use Rattle.fl_store.specs.Kept.{HasNamesOnce}
use Rattle.fl_sql_tables.proofs.LoadLemmas.{GivenOps}
use Rattle.std.proofs.Common.{false}
use Rattle.fl_sql_tables.proofs.load.load_ops.Given as goal

abbrev pub invariant-rows : goal.invariant-rows
invariant-rows g l =
    let old = state g.S.Store l.fn.conn in
    let now = state g.S.Store l.rows.conn.now in
    record {
      same_reference : l.rows.conn.ghost_name ≡ l.initial.rows.conn.ghost_name;
      mode : l.rows.conn.now.in_transaction ≡ false;
      survives : Survives old now (λ _. ⊥);
      same : HasCleanDisk now → IsUnchanged old now;
      names : HasNamesOnce l.ops;
      given : HasCleanDisk now → GivenOps g.S.Store l.rows.conn.now l.ops l._count;
    }
