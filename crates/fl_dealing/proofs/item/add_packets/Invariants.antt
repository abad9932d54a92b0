use Rattle.std.proofs.Common.{◌≡◌, ◌++◌, map}
use Rattle.fl_dealing.specs.Items.{item_of}
use Rattle.fl_dealing.proofs.item.add_packets.Given as goal

abbrev pub invariant-loop-packet : goal.invariant-loop-packet
invariant-loop-packet l = l.items.items ≡ l.fn.items.items ++ map item_of l.yielded
