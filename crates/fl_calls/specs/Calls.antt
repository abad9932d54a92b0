-- What a line asks of a world.
use Rattle.std.specs.Prelude.{◌≡◌, ◌<◌, ◌⊎◌, ℕ, Bool, true, false, List, length}
use Rattle.std.specs.declared.option.Option.TheVariants.{None, Some}
use Rattle.std.specs.declared.result.Result.TheVariants.{Ok, Err}
use Rattle.fl_labels.specs.SetBy as set
use Rattle.fl_ops.specs.Grammar.{first_fault}
use Rattle.fl_wire.specs.PacketGrammar.{packet_kept, packet_fields}
use Rattle.fl_wire.specs.Spelling.{Spells}
use Rattle.fl_wire.specs.declared.packet.Packet.{Packet}
use Rattle.fl_wire.specs.declared.packet.Packet.TheVariants as packets
use Rattle.fl_system.specs.declared.answer.Fault.{Fault}
use Rattle.fl_system.specs.declared.event.Event.{Event}
use Rattle.fl_system.specs.declared.event.Event.TheVariants as event
use Rattle.fl_system.specs.declared.reply.Reply.{Reply}
use Rattle.fl_system.specs.declared.reply.Reply.TheVariants.{Refused}
use Rattle.fl_system.specs.declared.sent.Sent.{Sent}
use Rattle.fl_system.specs.Numbered.{item_at}
use Rattle.fl_system.specs.Waiting.{IsRunning, NotRunning}
use Rattle.fl_system.specs.World.{World, KeptNode}
use Rattle.fl_system.specs.WorldSteps.{Step, IsAt, node_of}
use Rattle.fl_node.specs.Checking.{Checks}
use Rattle.fl_calls.specs.declared.response.Check.{Check}
use Rattle.fl_calls.specs.declared.response.Check.TheVariants.{New, Lacks, Data}
use Rattle.fl_calls.specs.Answer.{Answer, replied, dropped, text, checked, bad_packet, admitted, unknown}
use Rattle.fl_calls.specs.Entering.{Openings, OnceOpen}
use Rattle.fl_calls.specs.Completing.{Completes, starved}

-- what is replied is said so
abbrev pub Says : (Reply → Answer) → (Reply → World → Type 0) → Answer → World → Type 0
Says said step answer w' = (reply : Reply) × (answer ≡ said reply) × step reply w'

-- The event happens at its node, and what it begins is saved and published.
abbrev pub Asks : Openings → World → Event → Answer → World → Type 0
Asks openings w event =
    OnceOpen openings w (node_of event) (λ v. Says replied (Completes v event))

-- The event happens at its node, and what it begins is to be saved and published.
abbrev pub AsksToBegin : Openings → World → Event → Answer → World → Type 0
AsksToBegin openings w event =
    OnceOpen openings w (node_of event) (λ v. Says replied (Step v event))

-- what is said of a packet that comes: a message that is refused is dropped
abbrev pub said_of : Packet → Reply → Answer
said_of (packets.Data d) (Refused fault) = dropped fault
said_of packet reply = replied reply

-- the packet is one of operations
abbrev pub brings_ops : Packet → Bool
brings_ops (packets.Full batch) = true
brings_ops (packets.Have window) = false
brings_ops (packets.Delta batch) = true
brings_ops (packets.Data d) = false

-- The packet of this number, if it was sent, comes to the node, and what it brings is saved and published.
pub data Delivers (openings : Openings) (w : World) (number packet : ℕ) : Answer → World → Type 0 where
  not_sent : item_at w.packets packet ≡ None → Delivers openings w number packet unknown w
  comes : {sent : Sent} {answer : Answer} {w' : World} → item_at w.packets packet ≡ Some sent
      → OnceOpen openings w number
      (λ v. Says (said_of sent.packet) (Completes v (event.Deliver packet number))) answer w'
      → Delivers openings w number packet answer w'

-- The packet of this number, if it was sent and is one of operations, comes to the node, and what it brings is to be saved and
-- published.
pub data BeginsToTake (openings : Openings) (w : World) (number packet : ℕ)
    : Answer → World → Type 0 where
  not_sent : item_at w.packets packet ≡ None → BeginsToTake openings w number packet unknown w
  no_ops : {sent : Sent} → item_at w.packets packet ≡ Some sent → brings_ops sent.packet ≡ false
      → BeginsToTake openings w number packet unknown w
  comes : {sent : Sent} {answer : Answer} {w' : World} → item_at w.packets packet ≡ Some sent
      → brings_ops sent.packet ≡ true
      → OnceOpen openings w number (λ v. Says replied (Step v (event.Deliver packet number))) answer w'
      → BeginsToTake openings w number packet answer w'

-- What the node of this number has published is told; of a stopped one nothing.
pub data Tells (w : World) (number : ℕ) : Answer → World → Type 0 where
  running : {s : KeptNode} → IsAt w number s → IsRunning s.node.state
      → Tells w number (text (set.of_list s.node.published)) w
  stopped : {s : KeptNode} {fault : Fault} → IsAt w number s → NotRunning s.node.state fault
      → Tells w number (replied (Refused fault)) w

-- The same, of two nodes together. They are copied, which takes memory where there are some.
pub data Unites (w : World) (first second : ℕ) : Answer → World → Type 0 where
  running : {s t : KeptNode} → IsAt w first s → IsAt w second t
      → IsRunning s.node.state → IsRunning t.node.state
      → Unites w first second
      (text (set.union (set.of_list s.node.published) (set.of_list t.node.published))) w
  no_room : {s t : KeptNode} → IsAt w first s → IsAt w second t
      → IsRunning s.node.state → IsRunning t.node.state
      → (0 < length s.node.published) ⊎ (0 < length t.node.published)
      → Unites w first second (replied starved) w
  stopped : {number : ℕ} {s : KeptNode} {fault : Fault} → (number ≡ first) ⊎ (number ≡ second)
      → IsAt w number s → NotRunning s.node.state fault
      → Unites w first second (replied (Refused fault)) w

-- what a count says of the packet
abbrev pub counted : Packet → ℕ → Check
counted (packets.Full batch) count = New count
counted (packets.Have window) count = Lacks count
counted (packets.Delta batch) count = New count
counted (packets.Data d) count = Data

-- What a packet of these bytes would bring to the node of this number is told.
pub data ChecksAt (w : World) (number : ℕ) (bytes : List ℕ) : Answer → World → Type 0 where
  no_packet : {place : ℕ} → first_fault (packet_fields bytes) ≡ Some place
      → ChecksAt w number bytes (bad_packet place) w
  -- memory is wanted of a packet alone, of which something is kept
  no_room : first_fault (packet_fields bytes) ≡ None → 0 < packet_kept bytes
      → ChecksAt w number bytes (replied starved) w
  tells : {s : KeptNode} {packet : Packet} {count : ℕ} → IsAt w number s
      → Spells bytes packet → Checks s.node packet (Ok count)
      → ChecksAt w number bytes (checked (counted packet count)) w
  refuses : {s : KeptNode} {packet : Packet} {fault : Fault} → IsAt w number s
      → Spells bytes packet → Checks s.node packet (Err fault)
      → ChecksAt w number bytes (replied (Refused fault)) w

-- the node is opened first, or both, the first one first
abbrev pub AsksForText : Openings → World → ℕ → Answer → World → Type 0
AsksForText openings w number = OnceOpen openings w number (λ v. Tells v number)

abbrev pub AsksForUnion : Openings → World → ℕ → ℕ → Answer → World → Type 0
AsksForUnion openings w first second =
    OnceOpen openings w first (λ v. OnceOpen openings v second (λ u. Unites u first second))

abbrev pub AsksToCheck : Openings → World → ℕ → List ℕ → Answer → World → Type 0
AsksToCheck openings w number bytes = OnceOpen openings w number (λ v. ChecksAt v number bytes)

-- how much was admitted
abbrev pub AsksForAudit : World → Answer → World → Type 0
AsksForAudit w answer w' = (answer ≡ admitted (length w.audit)) × (w' ≡ w)
