-- What comes of a packet that a line brings.
use Rattle.std.specs.Prelude.{◌≡◌, ℕ, true, false, List, []}
use Rattle.std.specs.declared.option.Option.{Option}
use Rattle.std.specs.declared.option.Option.TheVariants.{None, Some}
use Rattle.std.specs.declared.result.Result.TheVariants.{Ok, Err}
use Rattle.fl_labels.specs.declared.name.Name.{Name}
use Rattle.fl_gossip.specs.Meeting.{FindsLeast}
use Rattle.fl_wire.specs.declared.fault.ReadFault.{ReadFault}
use Rattle.fl_wire.specs.declared.fault.ReadFault.TheVariants.{BadPacket, Memory}
use Rattle.fl_wire.specs.declared.packet.Packet.{Packet}
use Rattle.fl_wire.specs.declared.packet.Packet.TheVariants.{Have}
use Rattle.fl_system.specs.declared.answer.Fault.{Fault}
use Rattle.fl_system.specs.declared.answer.Fault.TheVariants.{Impostor}
use Rattle.fl_system.specs.declared.reply.Reply.TheVariants.{Refused}
use Rattle.fl_system.specs.World.{KeptNode}
use Rattle.fl_node.specs.Checking.{Checks}
use Rattle.fl_calls.specs.Answer as says
use Rattle.fl_calls.specs.Calls.{brings_ops, counted}
use Rattle.fl_machine_model.specs.Acts.{Act, Saying}
use Rattle.fl_machine_model.specs.Acts as acts
use Rattle.fl_machine_turns.specs.Answer.{Answer, said, answered_of, bad_line, starved_line}
use Rattle.fl_machine_turns.specs.Done.{Did}
use Rattle.fl_machine_turns.specs.Saying.{Says}
use Rattle.fl_machine_turns.specs.Settings.{Settings}
use Rattle.fl_sealed_packets.specs.Coming.{Brings, IsUnread}
use Rattle.fl_sealed_packets.specs.Ours.{IsNotOurs}

-- why bytes bring no packet is answered
abbrev pub unread_line : ReadFault → Answer
unread_line (BadPacket place) = said (says.bad_packet place)
unread_line Memory = starved_line

-- the least name of the packet that is not ours, where it is a window that has one
abbrev pub LeastNotOurs : ℕ → KeptNode → Packet → Option Name → Type 0
LeastNotOurs number s (Have window) = FindsLeast (IsNotOurs number s.node.saved window)
LeastNotOurs number s packet = λ found. found ≡ None

-- The packet of these bytes comes, and what it brings is saved and published. A window with a name
-- that is not ours is refused for it: who sent it had it of a machine that has our number too.
pub data Takes (settings : Settings) (s : KeptNode) (bytes : List ℕ)
    (Completes : Act → List Did → Saying → KeptNode → Type 0)
    : List Did → Answer → KeptNode → Type 0 where
  unread : {fault : ReadFault} → IsUnread settings.keys bytes fault
      → Takes settings s bytes Completes [] (unread_line fault) s
  not_ours : {packet : Packet} {name : Name} → Brings settings.keys bytes packet
      → LeastNotOurs settings.number s packet (Some name)
      → Takes settings s bytes Completes [] (said (says.replied (Refused (Impostor name)))) s
  comes : {packet : Packet} {ds : List Did} {answer : Answer} {s' : KeptNode}
      → Brings settings.keys bytes packet → LeastNotOurs settings.number s packet None
      → Says (answered_of packet) (Completes (acts.Receive packet)) ds answer s'
      → Takes settings s bytes Completes ds answer s'

-- The packet of these bytes comes, where it is one of operations, and what it brings is to be saved
-- and published.
pub data BeginsToTake (settings : Settings) (s : KeptNode) (bytes : List ℕ)
    (Begins : Act → List Did → Saying → KeptNode → Type 0)
    : List Did → Answer → KeptNode → Type 0 where
  unread : {fault : ReadFault} → IsUnread settings.keys bytes fault
      → BeginsToTake settings s bytes Begins [] (unread_line fault) s
  no_ops : {packet : Packet} → Brings settings.keys bytes packet → brings_ops packet ≡ false
      → BeginsToTake settings s bytes Begins [] bad_line s
  comes : {packet : Packet} {ds : List Did} {answer : Answer} {s' : KeptNode}
      → Brings settings.keys bytes packet → brings_ops packet ≡ true
      → Says (answered_of packet) (Begins (acts.Receive packet)) ds answer s'
      → BeginsToTake settings s bytes Begins ds answer s'

-- what a packet of these bytes would bring
pub data IsCheck (settings : Settings) (s : KeptNode) (bytes : List ℕ) : Answer → Type 0 where
  unread : {fault : ReadFault} → IsUnread settings.keys bytes fault
      → IsCheck settings s bytes (unread_line fault)
  tells : {packet : Packet} {count : ℕ} → Brings settings.keys bytes packet
      → Checks s.node packet (Ok count)
      → IsCheck settings s bytes (said (says.checked (counted packet count)))
  refuses : {packet : Packet} {fault : Fault} → Brings settings.keys bytes packet
      → Checks s.node packet (Err fault)
      → IsCheck settings s bytes (said (says.replied (Refused fault)))
