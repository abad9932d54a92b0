use Rattle.std.proofs.Common.{take}
use Rattle.fl_opset.proofs.JoinedNodes.{IsJoined}
use Rattle.fl_opset.proofs.joining.receive_all.Given as goal

abbrev pub invariant-loop-other : goal.invariant-loop-other
invariant-loop-other l = IsJoined l.fn.nodes.items (take l.other-index l.others) l.nodes.items l.added l.others l.other-index
