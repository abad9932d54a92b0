use Rattle.std.proofs.Common.{◌≡◌, length, subst, sym, arith}
use Rattle.sqlite.specs.Held.{state}
use Rattle.fl_sql_tables.specs.Stored.{PutsIn}
use Rattle.fl_sql_tables.proofs.MigrateLemmas.{none_left, puts_none}
use Rattle.fl_sql_tables.proofs.StateLemmas.{keeps_still, survives_still}
use Rattle.fl_sql_tables.proofs.migrate.refill.Goals as goal

pub returns-then-is_empty-clause-ok : goal.returns-then-is_empty-clause-ok
returns-then-is_empty-clause-ok g c clean inside ours is_open =
    let old = state g.S.Store c.args.tx.now.conn.now in
    let none : length c.args.ops.now ≡ 0 = grind arith in
    subst (λ ops. PutsIn ops old old) (sym (none_left c.args.ops.now none)) (puts_none old inside ours is_open)
