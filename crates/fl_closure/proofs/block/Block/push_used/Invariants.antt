use Rattle.fl_closure.proofs.Listing.{AreUsedBelow}
use Rattle.fl_closure.proofs.block.Block.push_used.Given as goal

abbrev pub invariant-loop-bit : goal.invariant-loop-bit
invariant-loop-bit l = AreUsedBelow l.initial.names.items l.self l.bit l.names.items
