use Rattle.fl_gossip.proofs.Take.{MayTo}
use Rattle.fl_gossip.proofs.Fronts.{LeftOf, AtNode}
use Rattle.fl_gossip.proofs.taking.refusal.Given as goal

abbrev pub invariant-loop-op : goal.invariant-loop-op
invariant-loop-op l = record {
  may : MayTo l.me l.saved l.ops l.op-index;
  left : LeftOf (AtNode l.saved l.node) l.ops l.op-index l.rest;
}
