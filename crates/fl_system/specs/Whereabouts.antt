-- Where an operation may stand in a world.
use Rattle.std.specs.Prelude.{◌⊎◌, ℕ}
use Rattle.std.specs.List.{Contains}
use Rattle.fl_ops.specs.Registry.{Registry}
use Rattle.fl_gossip.specs.Taking.{ops_of as ops_in}
use Rattle.fl_system.specs.declared.sent.Sent.{Sent}
use Rattle.fl_system.specs.declared.state.Pending.TheVariants.{Nothing, Unsaved, Due}
use Rattle.fl_system.specs.declared.state.State.{State}
use Rattle.fl_system.specs.declared.state.State.TheVariants.{Running, Stopped}
use Rattle.fl_system.specs.State.{ops_of, ops_in as ops_in_doubt}
use Rattle.fl_system.specs.Union.{Union}
use Rattle.fl_system.specs.World.{World, KeptNode}
use Rattle.fl_system.specs.WorldSteps.{IsAt}

-- pending, or in doubt
abbrev pub IsOnItsWay : State → Registry
IsOnItsWay (Running Nothing) op = ⊥
IsOnItsWay (Running (Unsaved batch)) op = Contains (ops_of batch) op
IsOnItsWay (Running (Due batch)) op = Contains (ops_of batch) op
IsOnItsWay (Stopped doubt) op = Contains (ops_in_doubt doubt) op

-- at some node of the world
abbrev pub IsOnItsWayIn : World → Registry
IsOnItsWayIn w op = (number : ℕ) × (s : KeptNode) × IsAt w number s × IsOnItsWay s.node.state op

-- in a packet that was sent
abbrev pub WasSent : World → Registry
WasSent w op = (sent : Sent) × Contains w.packets sent × Contains (ops_in sent.packet) op

-- saved, on its way, or sent
abbrev pub IsAnywhere : World → Registry
IsAnywhere w op = Union w op ⊎ (IsOnItsWayIn w op ⊎ WasSent w op)
