use Rattle.std.proofs.Common.{arith, ap, ◌*◌, ◌%◌, ◌^◌}
use Rattle.fl_closure.proofs.Bits.{bit_below, only_in}
use Rattle.fl_closure.proofs.block.Block.only.Goals as goal

pub overflow_shl-result : goal.overflow_shl-result
overflow_shl-result c = omega (arith, bit_below c.args.cap, c.bit_of.ensures)

pub returns : goal.returns
returns c = λ x. only_in c.args.cap x _ c.place_of.ensures (ap (λ k. 1 * 2 ^ k % 4294967296) c.bit_of.ensures)
