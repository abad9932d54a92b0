use Rattle.std.proofs.Common.{ap, Err}
use Rattle.sqlite.specs.Held.{state}
use Rattle.fl_sql_store.proofs.FoundLemmas.{held_founded, held_or_founded, ready_founded, not_made}
use Rattle.fl_sql_store.proofs.open.found_on.Goals as goal

pub returns-in-Ok-clause-held : goal.returns-in-Ok-clause-held
returns-in-Ok-clause-held g c clean =
    held_founded c.args.number (state g.S.Store c.args.conn.now) c.requires.blank c.requires.live c.requires.settled (g.met.S.Store.stays c.args.conn.now.store) (state g.S.Store c.found.new.conn)
    (g.met.S.Store.settled c.found.new.conn.store) (c.in-Ok.ensures.ok clean)

pub returns-in-Err-clause-held : goal.returns-in-Err-clause-held
returns-in-Err-clause-held g c clean =
    held_or_founded c.args.number (state g.S.Store c.args.conn.now) c.requires.blank c.requires.live c.requires.settled (g.met.S.Store.stays c.args.conn.now.store) (state g.S.Store c.found.new.conn)
    clean c.found.ensures.survives

pub returns-in-Ok-clause-ready : goal.returns-in-Ok-clause-ready
returns-in-Ok-clause-ready g c clean = ready_founded c.args.number (state g.S.Store c.args.conn.now) (state g.S.Store c.found.new.conn) (c.in-Ok.ensures.ok clean)

pub returns-in-Err-clause-refuses : goal.returns-in-Err-clause-refuses
returns-in-Err-clause-refuses g c clean =
    not_made c.args.number (state g.S.Store c.args.conn.now) (state g.S.Store c.found.new.conn) _ _ c.requires.blank c.refusal.ensures.either c.refusal.ensures.want c.refusal.ensures.failure
    (c.in-Err.ensures.fails clean) (λ is. c.in-Err.ensures.wants clean (ap Err is))
