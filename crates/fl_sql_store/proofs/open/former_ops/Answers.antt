use Rattle.std.proofs.Common.{inl}
use Rattle.sqlite.specs.Held.{state}
use Rattle.fl_sql_store.proofs.RewriteLemmas.{not_loaded}
use Rattle.fl_sql_store.proofs.open.former_ops.Goals as goal

pub returns-in-Err-Failed-clause-refuses : goal.returns-in-Err-Failed-clause-refuses
returns-in-Err-Failed-clause-refuses g c clean =
    let fails = rw c.in-Err-Failed.field-0-is at (c.in-Err-Failed.ensures.refuses clean) in
    not_loaded (state g.S.Store c.args.conn.now) (state g.S.Store c.load_ops.new.conn) _ _ c.refusal.ensures.either c.refusal.ensures.want c.refusal.ensures.failure (inl fails) fails.1
