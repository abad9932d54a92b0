use Rattle.fl_labels.specs.SetBy.{In}
use Rattle.fl_gossip.proofs.Meetings.{SoFar}
use Rattle.fl_gossip.proofs.meeting.least_stray.Given as goal

-- the owner has the operations so far
abbrev pub invariant-loop-op : goal.invariant-loop-op
invariant-loop-op l = SoFar (In l.owner) l.ops l.op-index
