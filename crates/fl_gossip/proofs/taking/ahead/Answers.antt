use Rattle.std.proofs.Common.{inl, inr}
use Rattle.fl_gossip.proofs.Fronts.{same_node}
use Rattle.fl_gossip.proofs.taking.ahead.Goals as goal

pub returns-then-eq : goal.returns-then-eq
returns-then-eq c = inl (same_node c.args.node c.args.name.node c.eq.result c.eq.ensures c.if-eq.true, c.from_name.ensures)

pub returns : goal.returns
returns c =
    let of = c.of_node.ensures in
    inr (c.of_node.result.now, record { rise = of.rise; only = of.only; all = of.all }, c.from_name-2.ensures)
