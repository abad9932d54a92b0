use Rattle.std.proofs.Common.{◌∙◌, sym, ap, subst, not}
use Rattle.std.specs.List.Sorted.{IsStrictlySortedBy}
use Rattle.std.proofs.lemmas.List.Kept.{IsStrictlySortedBy-filter}
use Rattle.fl_labels.specs.SetBy as set
use Rattle.fl_ops.specs.OpOrder.{op_cmp}
use Rattle.fl_registrar.proofs.saving.news.Goals as goal

pub from_rising-requires : goal.from_rising-requires
from_rising-requires c =
    subst (IsStrictlySortedBy op_cmp) (sym c.in_ok-new.ensures)
    (IsStrictlySortedBy-filter op_cmp (λ op. not (set.contains c.args.saved.now op)) c.args.ops.now c.requires)

pub returns : goal.returns
returns c = c.from_rising.ensures ∙ ap (set.of_list {R = op_cmp}) c.in_ok-new.ensures
