use Rattle.std.proofs.Common.{subst, sym}
use Rattle.sqlite.specs.Held.{state}
use Rattle.sqlite.specs.State.{HasCleanDisk, Survives}
use Rattle.fl_store.specs.Keeping.{Stays}
use Rattle.fl_sql_store.specs.SqlKeeping.{SqlKept, held_in}
use Rattle.fl_sql_store.specs.Opening.{OpensAs, OpensTo}
use Rattle.fl_sql_store.proofs.sql_keeper.SqlKeeper.open.Goals as goal

pub returns-in-Ok-clause-held : goal.returns-in-Ok-clause-held
returns-in-Ok-clause-held g c =
    subst (λ (k : SqlKept _). HasCleanDisk (state g.S.Store k.conn) → Stays (held_in c.args.number (state g.S.Store c.args.conn)) (held_in c.args.number (state g.S.Store k.conn))) (sym c.over.ensures) c.in-Ok.ensures.held

pub returns-in-Ok-clause-opens : goal.returns-in-Ok-clause-opens
returns-in-Ok-clause-opens g c =
    subst (λ (k : SqlKept _). HasCleanDisk (state g.S.Store k.conn) → OpensAs c.args.number (state g.S.Store c.args.conn) (state g.S.Store k.conn)) (sym c.over.ensures) c.in-Ok.ensures.opens

pub returns-in-Ok-clause-leaves : goal.returns-in-Ok-clause-leaves
returns-in-Ok-clause-leaves g c =
    subst (λ (k : SqlKept _). Survives (state g.S.Store c.args.conn) (state g.S.Store k.conn) (OpensTo c.args.number (state g.S.Store c.args.conn))) (sym c.over.ensures) c.check.ensures.leaves
