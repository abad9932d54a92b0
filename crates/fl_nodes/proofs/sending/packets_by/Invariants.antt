use Rattle.std.proofs.Common.{◌≡◌}
use Rattle.fl_system.specs.Gossip.{told_by}
use Rattle.fl_nodes.proofs.sending.packets_by.Given as goal

abbrev pub invariant-loop-packet : goal.invariant-loop-packet
invariant-loop-packet l = l.made.items ≡ told_by l.number l.yielded
