use Rattle.std.proofs.Common.{◌≡◌, take}
use Rattle.std.specs.List.{All}
use Rattle.fl_opset.specs.ByNode.{all_ops, AreByNode}
use Rattle.fl_opset.specs.parts.Room.{HasRoom}
use Rattle.fl_opset.proofs.joining.make_room.Given as goal

abbrev pub invariant-loop-other : goal.invariant-loop-other
invariant-loop-other l =
    AreByNode l.nodes.items × (all_ops l.nodes.items ≡ all_ops l.fn.nodes.items)
    × All (HasRoom l.nodes.items) (take l.other-index l.others)
