use Rattle.std.proofs.Common.{◌∙◌, ap, sym, subst}
use Rattle.fl_labels.specs.SetBy as set
use Rattle.fl_ops.specs.OpLaws.{op_total, op_exact}
use Rattle.fl_store.specs.Kept.{HasNamesOnce, with_ops}
use Rattle.fl_store.specs.laws.KeptSets.{union-nothing}
use Rattle.fl_store.proofs.MemLemmas.{sound_with}
use Rattle.fl_store.proofs.mem.MemKeeper.with.Goals as goal

pub invariant_of-result : goal.invariant_of-result
invariant_of-result c =
    let all = c.in_ok-add_all.ensures.ok ∙ ap (λ s. with_ops s c.args.ops.now) c.new-saved.ensures ∙ union-nothing op_total op_exact (set.of_list c.args.ops.now) in
    subst HasNamesOnce (sym all) c.requires

pub returns : goal.returns
returns c =
    let all = c.in_ok-add_all.ensures.ok ∙ ap (λ s. with_ops s c.args.ops.now) c.new-saved.ensures ∙ union-nothing op_total op_exact (set.of_list c.args.ops.now) in
    ap (sound_with c.args.number c.args.boot) all
