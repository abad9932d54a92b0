use Rattle.std.proofs.Common.{sym, ◌∙◌, ap, length}
use Rattle.fl_labels.specs.NameOrder.{name_total, name_exact}
use Rattle.fl_labels.specs.laws.SortedVec.{len_listed}
use Rattle.fl_labels.proofs.label.Label.len.Goals as goal

pub returns-clause-count : goal.returns-clause-count
returns-clause-count c = sym (len_listed name_total name_exact _ _ c.self.invariant.rises c.self.view_is ∙ ap length (sym c.as_slice.ensures))
