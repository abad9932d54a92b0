use Rattle.std.proofs.Common.{sym, subst, refl}
use Rattle.std.specs.List.{AllZip}
use Rattle.fl_opset.proofs.Entries.{IsCopy, copied_more, all_copied, same_ops, copies_by_node}
use Rattle.fl_opset.proofs.walks.copy_of.Goals as goal

pub loop-it-preserved : goal.loop-it-preserved
loop-it-preserved c =
    subst (AllZip IsCopy _) (sym c.in_ok-push.ensures.items)
    (copied_more c.args.nodes.now c.loop-it.made.items c.loop-it.it-index c.it-item.result _ c.deref.result.now c.loop-it-test.true c.it-item.is c.deref.ensures.value refl c.in_ok-ops.ensures.items c.loop-it.invariant)

pub returns-clause-same : goal.returns-clause-same
returns-clause-same c = same_ops c.args.nodes.now _ (all_copied c.args.nodes.now _ c.loop-it.it-index c.loop-it-test.false c.loop-it.invariant)

pub returns-clause-by_node : goal.returns-clause-by_node
returns-clause-by_node c = copies_by_node c.args.nodes.now _ (all_copied c.args.nodes.now _ c.loop-it.it-index c.loop-it-test.false c.loop-it.invariant) c.requires
