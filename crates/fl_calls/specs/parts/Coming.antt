-- What is responded to a packet that comes.
use Rattle.std.specs.Prelude.{◌≡◌, ℕ, zero, suc, Bool, true, false, List}
use Rattle.std.specs.List.{slice_get}
use Rattle.std.specs.declared.option.Option.{Option}
use Rattle.std.specs.declared.option.Option.TheVariants.{None, Some}
use Rattle.fl_wire.specs.declared.packet.Packet.{Packet}
use Rattle.fl_wire.specs.declared.packet.Packet.TheVariants as packets
use Rattle.fl_system.specs.declared.reply.Reply.{Reply}
use Rattle.fl_system.specs.declared.reply.Reply.TheVariants.{Refused}
use Rattle.fl_system.specs.declared.sent.Sent.{Sent}
use Rattle.fl_system.specs.Numbered.{item_at}
use Rattle.fl_system.specs.World.{World}
use Rattle.fl_calls.specs.declared.response.Response.{Response}
use Rattle.fl_calls.specs.declared.response.Response.TheVariants as response

abbrev pub is_message : Packet → Bool
is_message (packets.Full batch) = false
is_message (packets.Have window) = false
is_message (packets.Delta batch) = false
is_message (packets.Data d) = true

-- a message that is refused is dropped
abbrev pub coming : Bool → Reply → Response
coming true (Refused fault) = response.Dropped fault
coming b reply = response.Reply reply

-- the packet of this number, counted from 1
abbrev pub sent_at : List Sent → ℕ → Option Sent
sent_at sent zero = None
sent_at sent (suc before) = slice_get sent before

-- the packet of this number was sent, and it is a message or it is none
pub record IsSentAs (w : World) (packet : ℕ) (message : Bool) : Type 0 where
  pub sent : Sent
  pub there : item_at w.packets packet ≡ Some sent
  pub kind : is_message sent.packet ≡ message
