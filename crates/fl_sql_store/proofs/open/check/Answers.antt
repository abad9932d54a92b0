use Rattle.std.proofs.Common.{Err, IfErr, ap, inl, subst}
use Rattle.sqlite.specs.Held.{state}
use Rattle.fl_store.specs.Keeping.{Stays}
use Rattle.fl_sql_store.specs.Opening.{RefusesToServe}
use Rattle.fl_sql_store.specs.SqlKeeping.{held_in}
use Rattle.fl_sql_store.proofs.RewriteLemmas.{if_err_then}
use Rattle.fl_sql_store.proofs.open.check.Goals as goal

pub returns-in-Err-Empty-clause-refuses : goal.returns-in-Err-Empty-clause-refuses
returns-in-Err-Empty-clause-refuses g c clean =
    if_err_then c.found_on.result
    (subst (λ conn. IfErr c.found_on.result (RefusesToServe c.args.number (state g.S.Store conn) (state g.S.Store c.found_on.new.conn)))
    (c.in-Err-Empty.ensures.unread (ap Err c.in-Err-Empty.field-0-is)) (c.found_on.ensures.refuses clean))
    (λ fault h. inl h)

pub returns-in-Err-Empty-clause-held : goal.returns-in-Err-Empty-clause-held
returns-in-Err-Empty-clause-held g c clean =
    subst (λ conn. Stays (held_in c.args.number (state g.S.Store conn)) (held_in c.args.number (state g.S.Store c.found_on.new.conn)))
    (c.in-Err-Empty.ensures.unread (ap Err c.in-Err-Empty.field-0-is)) (c.found_on.ensures.held clean)
