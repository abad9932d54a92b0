use Rattle.fl_joining.specs.Against.{ClashesWith}
use Rattle.fl_joining.proofs.Found.{LeastSoFar}
use Rattle.fl_joining.proofs.searching.least_clash_with.Given as goal

-- the least of those so far was found
abbrev pub invariant-loop-node : goal.invariant-loop-node
invariant-loop-node g l = LeastSoFar (ClashesWith l.saved) l.all.entries l.node-iterator l.least
