-- Two runs of many machines side by side: in one of them who has the tag does nothing.
use Rattle.std.specs.Prelude.{◌≡◌, ◌⊎◌, ℕ, List, [], ◌∷◌}
use Rattle.std.specs.FinMap as map
use Rattle.std.specs.List.{Contains}
use Rattle.std.specs.declared.option.Option.{Option}
use Rattle.std.specs.declared.option.Option.TheVariants.{None, Some}
use Rattle.fl_labels.specs.SetBy.{In}
use Rattle.fl_labels.specs.declared.name.Name.{Name}
use Rattle.fl_wire.specs.declared.packet.Packet.{Packet}
use Rattle.fl_wire.specs.declared.packet.Packet.TheVariants.{Data}
use Rattle.fl_system.specs.Numbered.{item_at}
use Rattle.fl_system.specs.World.{KeptNode}
use Rattle.fl_system.specs.declared.sent.Sent.{Sent}
use Rattle.fl_machine_model.specs.Acts.{Act, Receive, Saying}
use Rattle.fl_machine_model.specs.Machines.{Machine, Up, Machines, Deed, Starts, Acts, Gets, Ends}
use Rattle.fl_machine_model.specs.Machines.{Happens, Turn, AreTurns, last}
use Rattle.fl_noninterference_laws.specs.Acts.{IsGuardedAct}
use Rattle.fl_noninterference_laws.specs.Endpoints.{IsSafeMachine}
use Rattle.fl_noninterference_laws.specs.Runs.{IsHidden, IsSealed, AreAlikeMachines}

-- a message with the tag
abbrev pub HasTag : Name → Packet → Type 0
HasTag tag (Data d) = In d.secrecy tag
HasTag tag packet = ⊥

-- each machine is alike, and what the first sent without the tag the other sent too
pub record AreAlikeAll (tag : Name) (m w : Machines) : Type 0 where
  pub desks : m.desks ≡ w.desks
  pub each : (number : ℕ) → AreAlikeMachines tag (map.get m.nodes number) (map.get w.nodes number)
  pub sent : (sent : Sent) → Contains m.packets sent
      → HasTag tag sent.packet ⊎ Contains w.packets sent

-- ---- what concerns who has the tag

abbrev pub IsHiddenAt : Name → Option Machine → Act → Type 0
IsHiddenAt tag (Some (Up s)) act = IsHidden tag s.node act
IsHiddenAt tag old act = ⊥

abbrev pub IsHiddenPacket : Name → Option Machine → Option Sent → Type 0
IsHiddenPacket tag old (Some sent) = IsHiddenAt tag old (Receive sent.packet)
IsHiddenPacket tag old None = ⊥

abbrev pub IsHiddenDeed : Name → Machines → Deed → Type 0
IsHiddenDeed tag m (Acts number act saying) = IsHiddenAt tag (map.get m.nodes number) act
IsHiddenDeed tag m (Gets packet number saying) =
    IsHiddenPacket tag (map.get m.nodes number) (item_at m.packets packet)
IsHiddenDeed tag m deed = ⊥

-- ---- what the runs rest on

-- of one machine, with orders that are guarded
abbrev pub IsSealedAt : Name → Option Machine → Act → Saying → Type 0
IsSealedAt tag (Some (Up s)) act saying = IsSealed tag s.node act saying × IsGuardedAct s.node act
IsSealedAt tag old act saying = Unit {0}

abbrev pub IsSealedPacket : Name → Option Machine → Option Sent → Saying → Type 0
IsSealedPacket tag old (Some sent) saying = IsSealedAt tag old (Receive sent.packet) saying
IsSealedPacket tag old None saying = Unit {0}

abbrev pub IsSealedDeed : Name → Machines → Deed → Type 0
IsSealedDeed tag m (Acts number act saying) = IsSealedAt tag (map.get m.nodes number) act saying
IsSealedDeed tag m (Gets packet number saying) =
    IsSealedPacket tag (map.get m.nodes number) (item_at m.packets packet) saying
IsSealedDeed tag m deed = Unit {0}

-- turns, each of them sealed
abbrev pub AreSealedTurns : Name → Machines → List Turn → Type 0
AreSealedTurns tag m [] = Unit {0}
AreSealedTurns tag m (t ∷ ts) =
    Happens m t.deed t.after × IsSealedDeed tag m t.deed × AreSealedTurns tag t.after ts

-- the open endpoints of each machine are safe
abbrev pub AreSafeMachines : Machines → Type 0
AreSafeMachines m = (number : ℕ) → IsSafeMachine (map.get m.nodes number)

-- ---- two runs

-- the same happens, and the same is said; a packet may have another number
abbrev pub IsSameDeed : Deed → Deed → Type 0
IsSameDeed (Starts number k saying) (Starts to j said) =
    (number ≡ to) × (k ≡ j) × (saying ≡ said)
IsSameDeed (Acts number act saying) (Acts to what said) =
    (number ≡ to) × (act ≡ what) × (saying ≡ said)
IsSameDeed (Gets packet number saying) (Gets other to said) = (number ≡ to) × (saying ≡ said)
IsSameDeed (Ends number k) (Ends to j) = (number ≡ to) × (k ≡ j)
IsSameDeed d e = ⊥

-- The turns of the one machines, and of the others: what concerns who has the tag is done among the
-- first alone, and all else among both.
pub data TurnsSideBySide (tag : Name) : Machines → Machines → List Turn → List Turn → Type 0 where
  ends : {m w : Machines} → TurnsSideBySide tag m w [] []
  alone : {m w : Machines} {t : Turn} {ts us : List Turn} → IsHiddenDeed tag m t.deed
      → TurnsSideBySide tag t.after w ts us → TurnsSideBySide tag m w (t ∷ ts) us
  both : {m w : Machines} {t u : Turn} {ts us : List Turn} → ¬ IsHiddenDeed tag m t.deed
      → IsSameDeed t.deed u.deed
      → TurnsSideBySide tag t.after u.after ts us → TurnsSideBySide tag m w (t ∷ ts) (u ∷ us)

-- there are such turns of the others, which leave them alike
pub record TurnsToo (tag : Name) (m w : Machines) (ts : List Turn) : Type 0 where
  pub others : List Turn
  pub are : AreTurns w others
  pub beside : TurnsSideBySide tag m w ts others
  pub alike : AreAlikeAll tag (last m ts) (last w others)

-- the machine of this number is up among the others too, and has saved and published the same
pub record ShowsToo (w : Machines) (number : ℕ) (s : KeptNode) : Type 0 where
  pub node : KeptNode
  pub there : map.get w.nodes number ≡ Some (Up node)
  pub saved : node.node.saved ≡ s.node.saved
  pub published : node.node.published ≡ s.node.published
