use Rattle.std.proofs.Common.{rules}
use Rattle.fl_closure.specs.parts.Block.{bit_of}
use Rattle.fl_closure.proofs.block.bit_of.Goals as goal

pub returns : goal.returns
unfolding bit_of
returns c = search rules
