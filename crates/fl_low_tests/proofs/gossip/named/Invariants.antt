use Rattle.fl_labels.specs.SetBy.{In}
use Rattle.fl_opset.specs.Catching.{HaveNoClash}
use Rattle.fl_low_tests.proofs.gossip.named.Given as goal

-- each name so far stands once
abbrev pub invariant-loop-op : goal.invariant-loop-op
invariant-loop-op l = HaveNoClash (In l.ops) (In l.ops)
