use Rattle.std.proofs.Common.{ap, ◌∙◌}
use Rattle.fl_labels.specs.CapOrder.{cap_total, cap_exact}
use Rattle.fl_labels.specs.SetBy.{of_list}
use Rattle.fl_labels.proofs.Arrange.{arranged_set}
use Rattle.fl_labels.proofs.cap_set.CapSet.from_vec.Goals as goal

pub returns : goal.returns
returns c = ap of_list c.from_vec.ensures.items ∙ arranged_set cap_total cap_exact _ _ c.arrange.ensures
