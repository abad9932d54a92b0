use Rattle.fl_crew_calls.specs.parts.Places.{StraysThere}
use Rattle.fl_joining.proofs.Found.{LeastSoFar}
use Rattle.fl_crew_calls.proofs.joining.least_stray_with.Given as goal

-- the least of those so far was found
abbrev pub invariant-loop-other : goal.invariant-loop-other
invariant-loop-other g l = LeastSoFar (StraysThere l.number l.saved) l.all.entries l.other-iterator l.least
