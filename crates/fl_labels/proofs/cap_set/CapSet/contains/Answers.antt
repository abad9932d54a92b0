use Rattle.std.proofs.Common.{sym, ◌∙◌}
use Rattle.fl_labels.specs.CapOrder.{cap_total, cap_exact}
use Rattle.fl_labels.specs.laws.SortedVec.{answers}
use Rattle.fl_labels.proofs.cap_set.CapSet.contains.Goals as goal

pub returns : goal.returns
returns c =
    c.is_ok.ensures.value
    ∙ sym (answers cap_total cap_exact _ _ c.self.invariant.rises c.self.view_is _ c.as_slice.ensures c.args.cap _ c.binary_search.ensures.bound c.binary_search.ensures.position)
