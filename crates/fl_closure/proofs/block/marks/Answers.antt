use Rattle.std.proofs.Common.{arith}
use Rattle.fl_closure.proofs.Bits.{bit_below}
use Rattle.fl_closure.proofs.block.marks.Goals as goal

pub overflow_shr-result : goal.overflow_shr-result
overflow_shr-result c = omega (arith, bit_below c.args.cap, c.bit_of.ensures)
