use Rattle.fl_labels.specs.SetBy.{In}
use Rattle.fl_gossip.proofs.Meetings.{SoFar, IsClean}
use Rattle.fl_gossip.proofs.meeting.least_clash.Given as goal

-- no operation of the nodes so far clashes
abbrev pub invariant-loop-entry : goal.invariant-loop-entry
invariant-loop-entry l = SoFar (IsClean (In l.theirs)) l.entry-items l.entry-index
