use Rattle.std.proofs.Common.{◌∙◌, length, ap, arith}
use Rattle.fl_manning.proofs.Asked.{awaited_more, awaited_count, all_taken, are_awaited}
use Rattle.fl_manning.proofs.awaiting.awaited_of.Goals as goal

pub loop-index-preserved : goal.loop-index-preserved
loop-index-preserved c =
    let more =
    awaited_more c.args.owners.now c.args.bodies.now c.loop-index.index 0 c.index-bodies-index.result (omega arith)
    (omega arith) in
    cc (c.in_ok-push.ensures.items)

pub returns-clause-count : goal.returns-clause-count
returns-clause-count c =
    let os = c.args.owners.now in
    let bs = c.args.bodies.now in
    let i = c.loop-index.index in
    ap length (c.loop-index.invariant ∙ all_taken os bs i (omega arith) (omega arith)) ∙ awaited_count os bs c.requires

pub returns-clause-orders : goal.returns-clause-orders
returns-clause-orders c items asked =
    let os = c.args.owners.now in
    let bs = c.args.bodies.now in
    let at = c.loop-index in
    are_awaited os bs at.orders.items items (at.invariant ∙ all_taken os bs at.index (omega arith) (omega arith)) asked
