use Rattle.std.specs.Prelude.{take}
use Rattle.fl_closure.specs.parts.Rows.{bits_at}
use Rattle.fl_closure.proofs.Listing.{AreLacking}
use Rattle.fl_closure.proofs.rows.Rows.lacking.Given as goal

abbrev pub invariant-loop-block : goal.invariant-loop-block
invariant-loop-block l = AreLacking (bits_at l.self l.owner) (take l.block-index l.blocks) l.lacking.items
