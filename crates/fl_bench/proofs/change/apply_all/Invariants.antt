use Rattle.std.proofs.Common.{◌≡◌, take}
use Rattle.fl_bench.specs.parts.Changes.{after}
use Rattle.fl_bench.proofs.change.apply_all.Given as goal

abbrev pub invariant-loop-change : goal.invariant-loop-change
invariant-loop-change l = l.caps ≡ after l.initial.caps (take l.change-index l.changes)
