use Rattle.std.proofs.Common.{inr, ap, Err}
use Rattle.sqlite.specs.Held.{state}
use Rattle.fl_sql_store.proofs.RewriteLemmas.{not_loaded}
use Rattle.fl_sql_store.proofs.open.migrate_with.Goals as goal

pub returns-in-Err-clause-refuses : goal.returns-in-Err-clause-refuses
returns-in-Err-clause-refuses g c clean =
    not_loaded (state g.S.Store c.args.conn.now) (state g.S.Store c.migrate.new.conn) _ _ c.refusal.ensures.either c.refusal.ensures.want c.refusal.ensures.failure
    (inr (c.args.ops.now, c.in-Err.ensures.fails clean)) (λ is. c.in-Err.ensures.wants clean (ap Err is))
