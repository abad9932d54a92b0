use Rattle.std.proofs.Common.{sym, subst}
use Rattle.fl_dir_maker.specs.Keeping.{IsUnopened, no_keeper, unconnected}
use Rattle.fl_dir_maker.proofs.Keepers.{is_keeper}
use Rattle.fl_dir_maker.proofs.opening.open.Goals as goal

pub returns-in-Err-clause-unopened : goal.returns-in-Err-clause-unopened
returns-in-Err-clause-unopened g c = unconnected c.in-Err.ensures.unconnected

pub returns-in-Ok-open-clause-keeper : goal.returns-in-Ok-open-clause-keeper
returns-in-Ok-open-clause-keeper g c =
    is_keeper g.met.O.D.Disk.seen_may_stay _ c.args.number c.in-Ok.conn c.in-Ok-open.keeper
    c.in-Ok.ensures.connects c.in-Ok-open.ensures.number c.in-Ok-open.ensures.held

pub returns-in-Err-open-clause-unopened : goal.returns-in-Err-open-clause-unopened
returns-in-Err-open-clause-unopened g c =
    subst (IsUnopened _ _ _ c.args.number) (sym c.of_keeper.ensures)
    (no_keeper c.in-Err-open.fault
    (c.in-Ok.conn, c.in-Err-open._conn, c.in-Ok.ensures.connects, c.in-Err-open.ensures.refuses))
