use Rattle.std.proofs.Common.{subst, sym}
use Rattle.sqlite.specs.Held.{state}
use Rattle.sqlite.specs.State.{HasCleanDisk}
use Rattle.fl_store.specs.Keeping.{Stays}
use Rattle.fl_sql_store.specs.SqlKeeping.{SqlKept, held_in}
use Rattle.fl_sql_store.proofs.sql_keeper.SqlKeeper.open_there.Goals as goal

pub returns-in-Ok-clause-held : goal.returns-in-Ok-clause-held
returns-in-Ok-clause-held g c =
    subst (λ (k : SqlKept _). HasCleanDisk (state g.S.Store k.conn) → Stays (held_in c.args.number (state g.S.Store c.args.conn)) (held_in c.args.number (state g.S.Store k.conn))) (sym c.over.ensures) c.in-Ok.ensures.held
