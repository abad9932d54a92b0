use Rattle.std.proofs.Common.{sym, ap, length, ◌∙◌}
use Rattle.fl_labels.specs.CapOrder.{cap_total, cap_exact}
use Rattle.fl_labels.specs.laws.SortedVec.{len_listed}
use Rattle.fl_labels.proofs.cap_set.CapSet.len.Goals as goal

pub returns : goal.returns
returns c = ap length c.as_slice.ensures ∙ sym (len_listed cap_total cap_exact _ _ c.self.invariant.rises c.self.view_is)
