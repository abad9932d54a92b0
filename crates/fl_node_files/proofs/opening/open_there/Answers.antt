use Rattle.std.proofs.Common.{sym, subst}
use Rattle.fl_dir_maker.proofs.Keepers.{is_keeper}
use Rattle.fl_node_files.specs.Serving.{IsUnserved, no_keeper, unconnected}
use Rattle.fl_node_files.proofs.opening.open_there.Goals as goal

pub returns-in-Err-clause-unserved : goal.returns-in-Err-clause-unserved
returns-in-Err-clause-unserved g c =
    subst (IsUnserved _ _ _ c.args.number) (sym c.of_cause.ensures)
    (unconnected c.in-Err.ensures.unconnected)

pub returns-in-Ok-open_there-clause-keeper : goal.returns-in-Ok-open_there-clause-keeper
returns-in-Ok-open_there-clause-keeper g c =
    is_keeper g.met.O.D.Disk.seen_may_stay _ c.args.number c.in-Ok.conn c.in-Ok-open_there.keeper
    c.in-Ok.ensures.connects c.in-Ok-open_there.ensures.number c.in-Ok-open_there.ensures.held

pub returns-in-Err-open_there-clause-unserved : goal.returns-in-Err-open_there-clause-unserved
returns-in-Err-open_there-clause-unserved g c =
    subst (IsUnserved _ _ _ c.args.number) (sym c.of_there.ensures)
    (no_keeper c.in-Err-open_there.why
    (c.in-Ok.conn, c.in-Err-open_there._conn, c.in-Ok.ensures.connects, c.in-Err-open_there.ensures.refuses))
