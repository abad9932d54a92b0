use Rattle.std.proofs.Common.{sym, ap, ◌∙◌}
use Rattle.fl_labels.specs.NameOrder.{name_total, name_exact}
use Rattle.fl_labels.specs.SetBy.{members, members-of_list}
use Rattle.fl_labels.proofs.label.Label.iter.Goals as goal

pub returns : goal.returns
returns c = c.iter.ensures.rest ∙ c.as_slice.ensures ∙ sym (members-of_list name_total name_exact _ c.self.invariant.rises) ∙ ap members c.self.view_is
