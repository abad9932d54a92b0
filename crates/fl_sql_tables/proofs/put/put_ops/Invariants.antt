use Rattle.std.proofs.Common.{◌≡◌, ◌<◌, IsTrue, take}
use Rattle.sqlite.specs.Held.{state}
use Rattle.sqlite.specs.State.{HasCleanDisk, KeepsCommit, Survives}
use Rattle.fl_sql_tables.specs.Stored.{PutsIn, IsOurs}
use Rattle.fl_sql_tables.proofs.put.put_ops.Given as goal

abbrev pub invariant-ops : goal.invariant-ops
invariant-ops g l =
    let old = state g.S.Store l.fn.tx.conn.now in
    let now = state g.S.Store l.tx.conn.now in
    record {
      same_reference : l.tx.conn.ghost_name ≡ l.fn.tx.conn.ghost_name;
      first : l.op-index ≡ 0 → l.tx.conn.now ≡ l.fn.tx.conn.now;
      ok : HasCleanDisk now → IsTrue old.in_transaction → IsOurs old → 0 < l.op-index → PutsIn (take l.op-index l.ops) old now;
      kept : HasCleanDisk now → KeepsCommit old now;
      survives : Survives old now (λ _. ⊥);
    }
