use Rattle.fl_labels.specs.SetBy as set
use Rattle.fl_opset.specs.laws.Once.{same_once, empty_once}
use Rattle.fl_low_tests.proofs.gossip.named.Goals as goal

pub loop-op-init : goal.loop-op-init
loop-op-init c = same_once set.empty _ c.new-ops.ensures empty_once
