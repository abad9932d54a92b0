use Rattle.std.proofs.Common.{ap, length}
use Rattle.fl_labels.specs.NameOrder.{name_total, name_exact}
use Rattle.fl_labels.specs.laws.SortedVec.{len_listed, empty_test}
use Rattle.fl_labels.proofs.label.Label.is_empty.Goals as goal

pub returns : goal.returns
returns c = empty_test c.is_empty.result _ _ _ c.is_empty.ensures (ap length c.as_slice.ensures) (len_listed name_total name_exact _ _ c.self.invariant.rises c.self.view_is)
