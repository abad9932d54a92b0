use Rattle.fl_sealed_packets.proofs.NotOurs.{NoneSoFar}
use Rattle.fl_sealed_packets.proofs.ours.least_not_ours.Given as goal

-- no name of the spans so far is not ours
abbrev pub invariant-loop-span : goal.invariant-loop-span
invariant-loop-span l = NoneSoFar l.number l.saved l.window l.spans l.span-index
