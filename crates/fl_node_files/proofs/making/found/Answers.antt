use Rattle.std.proofs.Common.{◌∙◌, ap, sym, subst}
use Rattle.fl_node_files.specs.Making.{IsNodeOver, IsUnmade, no_keeper, unconnected}
use Rattle.fl_node_files.specs.Unserving.{cause_unserved}
use Rattle.fl_node_files.proofs.Nodes.{node_over}
use Rattle.fl_node_files.proofs.making.found.Goals as goal

pub returns-in-Err-clause-unmade : goal.returns-in-Err-clause-unmade
returns-in-Err-clause-unmade g c =
    subst (IsUnmade _ _ _ c.args.number) (sym c.of_cause.ensures)
    (unconnected c.in-Err.ensures.unconnected)

pub returns-in-Ok-open-clause-node : goal.returns-in-Ok-open-clause-node
returns-in-Ok-open-clause-node g c =
    subst (IsNodeOver _ c.args.number) (sym c.into_connection.ensures.same)
    (node_over g.met.O.D.Disk.seen_may_stay _ c.args.number c.in-Ok.conn c.in-Ok-open.keeper _
    c.in-Ok.ensures.connects c.in-Ok-open.ensures.number c.in-Ok-open.ensures.opens c.in-Ok-open.ensures.held
    c.in-Ok-open.ensures.leaves)

pub returns-in-Err-open-clause-unmade : goal.returns-in-Err-open-clause-unmade
returns-in-Err-open-clause-unmade g c =
    subst (IsUnmade _ _ _ c.args.number) (sym (c.of_cause-in-Err-open.ensures ∙ ap cause_unserved c.of_keeper.ensures))
    (no_keeper c.in-Err-open.fault
    (c.in-Ok.conn, c.in-Err-open._conn, c.in-Ok.ensures.connects, c.in-Err-open.ensures.refuses))
