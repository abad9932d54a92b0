use Rattle.std.proofs.Common.{sym, ap, ◌∙◌}
use Rattle.fl_labels.specs.CapOrder.{cap_total, cap_exact}
use Rattle.fl_labels.specs.SetBy.{members, members-of_list}
use Rattle.fl_labels.proofs.cap_set.CapSet.as_slice.Goals as goal

pub returns : goal.returns
returns c = c.as_slice.ensures ∙ sym (members-of_list cap_total cap_exact _ c.self.invariant.rises) ∙ ap members c.self.view_is
