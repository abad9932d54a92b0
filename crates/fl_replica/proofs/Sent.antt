-- A desk may go to another thread. The compiler does not find it by itself, so who sends one cites
-- `desk_send`.
use denote.Param.Send.{IsSend, IsSync, sendable, view_send, view_sync}
use denote.Param.SendFields.{declared_send, declared_sync}
use Rattle.std.proofs.Crossing.{crosses}
use Rattle.std.proofs.MapsCrossing.{crosses as map_crosses}
use Rattle.std.proofs.MapsCrossingOver.{crosses as set_crosses}
use Rattle.atomic_table.proofs.shared.Seat.TheSendSync.{the_send as seat_send}
use Rattle.atomic_table.proofs.shared.Shared.TheSendSync.{the_send as shared_send}
use Rattle.atomic_table.proofs.shared.Shared.TheSendSync.{the_sync as shared_sync}
use Rattle.atomic_table.proofs.send_lease.SendLease.TheSendSync.{the_send as lease_send, the_sync as lease_sync}
use Rattle.left_right.proofs.part.Part.TheSendSync.{the_send as part_send}
use Rattle.logbook.proofs.tokens.Seen.TheSendSync.{the_send as seen_send}
use Rattle.logbook.proofs.tokens.Seen.TheSendSync.{the_sync as seen_sync}
use Rattle.fl_cache.proofs.Sent.{cache_send}
use Rattle.fl_closure.specs.contracts.index.Index as index
use Rattle.fl_closure.specs.contracts.index.Index.TheInside as index_inside
use Rattle.fl_replica.specs.contracts.desk.Desk as desk
use Rattle.fl_replica.specs.contracts.desk.Desk.TheInside as desk_inside
use Rattle.fl_replica.specs.contracts.told.Told as told
use Rattle.fl_replica.specs.contracts.told.Told.TheInside as told_inside
use Rattle.fl_replica.specs.contracts.published.Published as published

told_send : IsSend told.the_row
told_send = view_send _ _ _ _ _ (declared_send told_inside.the_type (search (sendable, seen_send) depth 12, (search sendable, tt)))

index_sync : IsSync index.the_row
index_sync = view_sync _ _ _ _ _ (declared_sync index_inside.the_type (
  search (sendable, crosses, map_crosses, set_crosses) depth 40 fits 100000,
  (search (sendable, crosses, map_crosses, set_crosses) depth 40 fits 100000, (search (sendable, crosses) depth 20, (search (sendable, crosses) depth 12, tt))),
))

published_sync : IsSync published.the_row
published_sync = search (sendable, crosses, index_sync, seen_sync) depth 40 fits 100000

pub desk_send : IsSend desk.the_row
desk_send = view_send _ _ _ _ _ (declared_send desk_inside.the_type (search (sendable, crosses, seat_send, shared_send, shared_sync, lease_send, lease_sync, part_send, published_sync) depth 40 fits 100000, (search (sendable, told_send) depth 12, (search (sendable, cache_send) depth 12, tt))))
