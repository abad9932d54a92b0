use Rattle.sqlite.specs.Held.{state}
use Rattle.fl_sql_store.proofs.FoundLemmas.{ready_found, not_shown}
use Rattle.fl_sql_store.proofs.open.itself_on.Goals as goal

pub returns-in-Ok-Own-clause-ready : goal.returns-in-Ok-Own-clause-ready
returns-in-Ok-Own-clause-ready g c clean =
    let old = state g.S.Store c.args.conn.now in
    let new = state g.S.Store c.read_itself.new.conn in
    let one = rw c.in-Ok-Own.field-0-is at (c.in-Ok-Own.ensures.ok clean) in
    ready_found c.args.number one.0 old new one.1 c.requires.ours c.requires.live c.requires.settled (c.in-Ok-Own.ensures.same clean) (c.in-Ok-Own.format, one.2)

pub returns-in-Err-clause-refuses : goal.returns-in-Err-clause-refuses
returns-in-Err-clause-refuses g c clean =
    not_shown c.args.number (state g.S.Store c.args.conn.now) (state g.S.Store c.read_itself.new.conn) _ _ c.requires.ours c.refusal.ensures.either c.refusal.ensures.want c.refusal.ensures.failure
    (c.in-Err.ensures.err clean)
