use Rattle.fl_bench.specs.Bench.{new_bench}
use Rattle.fl_desks.proofs.Making.{AreTo}
use Rattle.fl_desks.proofs.benches.Benches.new.Given as goal

-- the benches so far
abbrev pub invariant-loop-index : goal.invariant-loop-index
invariant-loop-index l = AreTo (λ index. new_bench l.node l.boot index l.count) l.index l.all.items
