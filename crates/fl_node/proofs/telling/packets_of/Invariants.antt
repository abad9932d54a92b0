use Rattle.std.proofs.Common.{◌≡◌, map}
use Rattle.fl_wire.specs.declared.packet.Packet.TheVariants.{Have}
use Rattle.fl_node.proofs.telling.packets_of.Given as goal

abbrev pub invariant-loop-window : goal.invariant-loop-window
invariant-loop-window l = l.told.items ≡ map Have l.yielded
