-- A cache may go to another thread. The compiler does not find it by itself, so who sends one cites this.
use denote.Param.Send.{IsSend, sendable, view_send}
use denote.Param.SendFields.{declared_send}
use Rattle.std.proofs.Crossing.{crosses}
use Rattle.std.proofs.MapsCrossing.{crosses as map_crosses}
use Rattle.std.proofs.MapsCrossingOver.{crosses as set_crosses}
use Rattle.lru.proofs.Crosses.{KeyRef-send, List-send, Deed-send}
use Rattle.fl_cache.specs.contracts.yes.YesCache as cache
use Rattle.fl_cache.specs.contracts.yes.YesCache.TheInside as inside

pub cache_send : IsSend cache.the_row
cache_send = view_send _ _ _ _ _ (declared_send inside.the_type (
  search (sendable, crosses, map_crosses, set_crosses, KeyRef-send, List-send, Deed-send) depth 40 fits 100000,
  (search (sendable, crosses) depth 12, tt),
))
