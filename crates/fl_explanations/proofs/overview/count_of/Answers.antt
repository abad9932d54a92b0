use Rattle.std.proofs.Common.{◌∙◌}
use Rattle.fl_labels.specs.SetBy.{len-members}
use Rattle.fl_explanations.proofs.overview.count_of.Goals as goal

pub returns-in-Received : goal.returns-in-Received
returns-in-Received c = rw c.in-Received.is (c.len.ensures ∙ len-members c.in-Received.ops)
