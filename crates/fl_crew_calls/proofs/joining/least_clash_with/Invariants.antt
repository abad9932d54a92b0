use Rattle.fl_crew_calls.specs.parts.Places.{ClashesThere}
use Rattle.fl_joining.proofs.Found.{LeastSoFar}
use Rattle.fl_crew_calls.proofs.joining.least_clash_with.Given as goal

-- the least of those so far was found
abbrev pub invariant-loop-place : goal.invariant-loop-place
invariant-loop-place g l = LeastSoFar (ClashesThere l.saved) l.all.entries l.place-iterator l.least
