use Rattle.std.specs.Prelude.{take}
use Rattle.fl_closure.proofs.Listing.{AreUsed}
use Rattle.fl_closure.proofs.block.used.Given as goal

abbrev pub invariant-loop-block : goal.invariant-loop-block
invariant-loop-block l = AreUsed (take l.block-index l.blocks) l.names.items
