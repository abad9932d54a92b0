use denote.Param.Send.{sendable}
use Rattle.std.proofs.Crossing.{crosses}
use Rattle.fl_replica.proofs.Sent.{desk_send}
use Rattle.fl_replica_tests.proofs.publishing.desks_read_while_press_publishes.Goals as goal

pub spawn-one-requires-send-F : goal.spawn-one-requires-send-F
spawn-one-requires-send-F c κs within = search (sendable, crosses, desk_send) depth 20

pub spawn-two-requires-send-F : goal.spawn-two-requires-send-F
spawn-two-requires-send-F c κs within = search (sendable, crosses, desk_send) depth 20
