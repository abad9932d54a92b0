use Rattle.std.proofs.Common.{subst, sym}
use Rattle.sqlite.specs.Held.{state}
use Rattle.sqlite.specs.State.{HasCleanDisk, Survives}
use Rattle.fl_store.specs.Keeping.{Stays}
use Rattle.fl_sql_store.specs.SqlKeeping.{SqlKept, held_in}
use Rattle.fl_sql_store.specs.Opening.{OpensAs, OpensTo, RefusesToOpen}
use Rattle.fl_sql_store.proofs.sql_keeper.SqlKeeper.open_or_broken.Goals as goal

pub returns-in-Ok-clause-opens : goal.returns-in-Ok-clause-opens
returns-in-Ok-clause-opens g c =
    subst (λ (k : SqlKept _). HasCleanDisk (state g.S.Store k.conn) → OpensAs c.args.number (state g.S.Store c.args.conn) (state g.S.Store k.conn)) (sym c.over.ensures) c.in-Ok.ensures.opens

pub returns-in-Ok-clause-held : goal.returns-in-Ok-clause-held
returns-in-Ok-clause-held g c =
    subst (λ (k : SqlKept _). HasCleanDisk (state g.S.Store k.conn) → Stays (held_in c.args.number (state g.S.Store c.args.conn)) (held_in c.args.number (state g.S.Store k.conn))) (sym c.over.ensures) c.in-Ok.ensures.held

pub returns-in-Err-clause-refuses : goal.returns-in-Err-clause-refuses
returns-in-Err-clause-refuses g c =
    subst (λ (k : SqlKept _). HasCleanDisk (state g.S.Store k.conn) → RefusesToOpen c.args.number (state g.S.Store c.args.conn) (state g.S.Store k.conn) c.in-Err.fault) (sym c.broken.ensures) c.in-Err.ensures.refuses

pub returns-in-Err-clause-held : goal.returns-in-Err-clause-held
returns-in-Err-clause-held g c =
    subst (λ (k : SqlKept _). HasCleanDisk (state g.S.Store k.conn) → Stays (held_in c.args.number (state g.S.Store c.args.conn)) (held_in c.args.number (state g.S.Store k.conn))) (sym c.broken.ensures) c.in-Err.ensures.held

pub returns-in-Ok-clause-leaves : goal.returns-in-Ok-clause-leaves
returns-in-Ok-clause-leaves g c =
    subst (λ (k : SqlKept _). Survives (state g.S.Store c.args.conn) (state g.S.Store k.conn) (OpensTo c.args.number (state g.S.Store c.args.conn))) (sym c.over.ensures) c.check.ensures.leaves

pub returns-in-Err-clause-leaves : goal.returns-in-Err-clause-leaves
returns-in-Err-clause-leaves g c =
    subst (λ (k : SqlKept _). Survives (state g.S.Store c.args.conn) (state g.S.Store k.conn) (OpensTo c.args.number (state g.S.Store c.args.conn))) (sym c.broken.ensures) c.check.ensures.leaves
