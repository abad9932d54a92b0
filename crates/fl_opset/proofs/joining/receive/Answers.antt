use Rattle.std.proofs.Common.{length, ap, arith}
use Rattle.std_collections.proofs.SortedSets.{length_union}
use Rattle.fl_ops.specs.OpOrder.{op_cmp}
use Rattle.fl_opset.proofs.joining.receive.Goals as goal

pub overflow_sub-result : goal.overflow_sub-result
overflow_sub-result c =
    omega (arith, length_union op_cmp c.args.own.now.items c.args.more.now, ap length c.join.ensures, c.args.own.now.ok, c.join.new.own.ok)

pub returns-clause-count : goal.returns-clause-count
returns-clause-count c =
    omega (arith, length_union op_cmp c.args.own.now.items c.args.more.now, ap length c.join.ensures, c.args.own.now.ok, c.join.new.own.ok)
