use Rattle.fl_ops.specs.Registry.{Listed}
use Rattle.fl_gossip.proofs.Fronts.{LeftOf}
use Rattle.fl_gossip.proofs.Meetings.{SoFar, Agrees}
use Rattle.fl_gossip.proofs.meeting.first_clash.Given as goal

-- no operation so far clashes
abbrev pub invariant-loop-op : goal.invariant-loop-op
invariant-loop-op l = record {
  clean : SoFar (Agrees (Listed l.others)) l.ops l.op-index;
  left : LeftOf (Listed l.others) l.ops l.op-index l.rest;
}
