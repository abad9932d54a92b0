use Rattle.std.proofs.Common.{◌≡◌, length, arith, sym, ap, ◌∙◌}
use Rattle.fl_ops.specs.OpLaws.{op_total, op_exact}
use Rattle.fl_store.specs.Kept.{with_ops}
use Rattle.fl_store.specs.laws.KeptSets.{union-one}
use Rattle.fl_store.proofs.MemLemmas.{add_none, one_item}
use Rattle.fl_store.proofs.mem.add_all.Goals as goal

pub returns-in-empty-clause-ok : goal.returns-in-empty-clause-ok
returns-in-empty-clause-ok c =
    let none : length c.args.ops.now ≡ 0 = omega (arith, c.in-empty.len_below) in
    add_none c.args.saved.now c.args.ops.now none

pub returns-in-Ok-clause-ok : goal.returns-in-Ok-clause-ok
returns-in-Ok-clause-ok c =
    let is = one_item c.args.ops.now c.op-item.result c.in-len1.len_at_least c.in-len1.len_below c.op-item.is in
    c.in-Ok.ensures.ok ∙ sym (union-one op_total op_exact c.args.saved.now c.op-item.result) ∙ ap (with_ops c.args.saved.now) (sym is)
