use Rattle.fl_joining.specs.Against.{StraysWith}
use Rattle.fl_joining.proofs.Found.{LeastSoFar}
use Rattle.fl_joining.proofs.searching.least_stray_with.Given as goal

-- the least of those so far was found
abbrev pub invariant-loop-other : goal.invariant-loop-other
invariant-loop-other g l = LeastSoFar (StraysWith l.number l.saved) l.all.entries l.other-iterator l.least
