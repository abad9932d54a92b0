use Rattle.std.proofs.Common.{◌≡◌, rules}
use Rattle.std.specs.Ordering.{nat_cmp}
use Rattle.std.proofs.lemmas.Fn.{always_returns_same}
use Rattle.fl_opset.proofs.ByNode.{last_below}
use Rattle.fl_opset.proofs.node_ops.find.Goals as goal

pub returns-then-last-node-clause-position : goal.returns-then-last-node-clause-position
returns-then-last-node-clause-position c = λ up _. last_below c.args.nodes.now c.args.node c.in-Some.last.now up c.in-Some.ensures.item.3.1 c.if-last-node.true

pub returns-clause-position : goal.returns-clause-position
returns-clause-position c = λ up.
    c.binary_search_by.ensures.position (λ it. nat_cmp it.node c.args.node)
    (always_returns_same _ (λ a r. r ≡ nat_cmp a.0.now.node c.args.node) _ (λ a r f k. search rules))
