-- How a packet is spelled in bytes, in either format.
use Rattle.std.specs.Prelude.{ℕ, List, ◌∷◌, ◌++◌, length}
use Rattle.std.specs.Int.{w16, w32, to_be_bytes}
use Rattle.std.specs.List.{flat_map}
use Rattle.fl_labels.specs.declared.pid.Pid.{Pid}
use Rattle.fl_labels.specs.Name.{name_cmp}
use Rattle.fl_labels.specs.Cap.{cap_cmp}
use Rattle.fl_labels.specs.SetBy.{SetBy, members, len}
use Rattle.fl_ops.specs.declared.op.Op.{Op}
use Rattle.fl_ops.specs.declared.format.Format.{Format}
use Rattle.fl_ops.specs.declared.format.Format.TheVariants.{One, Two}
use Rattle.fl_ops.specs.Format.{node_width}
use Rattle.fl_ops.specs.Bytes.{name_bytes, cap_bytes, op_bytes}
use Rattle.fl_opset.specs.declared.span.Span.{Span}
use Rattle.fl_opset.specs.declared.intervals.Intervals.{Intervals}
use Rattle.fl_message.specs.declared.message.Message.{Message}
use Rattle.fl_message.specs.declared.message.Data.{Data}
use Rattle.fl_wire.specs.declared.packet.Packet.{Packet}
use Rattle.fl_wire.specs.declared.packet.Packet.TheVariants as kinds

-- the node as wide as the format has it, then the boot and the serial in four bytes each
abbrev pub pid_bytes : Format → Pid → List ℕ
pid_bytes f p = to_be_bytes (node_width f) p.node ++ (to_be_bytes w32 p.boot ++ to_be_bytes w32 p.serial)

-- how many tags in two bytes, then the tags, rising
abbrev pub label_bytes : Format → SetBy name_cmp → List ℕ
label_bytes f s = to_be_bytes w16 (len s) ++ flat_map (name_bytes f) (members s)

-- how many capabilities in one byte, then the capabilities, rising
abbrev pub caps_bytes : Format → SetBy cap_cmp → List ℕ
caps_bytes f s = len s ∷ flat_map (cap_bytes f) (members s)

-- how many bytes in two bytes, then the bytes
abbrev pub payload_bytes : List ℕ → List ℕ
payload_bytes p = to_be_bytes w16 (length p) ++ p

abbrev pub message_bytes : Format → Message → List ℕ
message_bytes f m = caps_bytes f m.caps ++ payload_bytes m.payload

-- the two ends, the two labels, and the message
abbrev pub data_bytes : Format → Data → List ℕ
data_bytes f d =
    pid_bytes f d.sender ++ d.from.number
    ∷ (pid_bytes f d.receiver ++ d.to.number
    ∷ (label_bytes f d.secrecy ++ (label_bytes f d.integrity ++ message_bytes f d.message)))

-- how many operations in one byte, then the operations
abbrev pub batch_bytes : Format → List Op → List ℕ
batch_bytes f ops = length ops ∷ flat_map (op_bytes f) ops

-- the first name, then the number of the last one in four bytes
abbrev pub span_bytes : Format → Span → List ℕ
span_bytes f s = name_bytes f s.first ++ to_be_bytes w32 s.last

-- the two ends, then how many spans in two bytes, then the spans
abbrev pub intervals_bytes : Format → Intervals → List ℕ
intervals_bytes f w =
    name_bytes f w.from
    ++ (name_bytes f w.to ++ (to_be_bytes w16 (length w.spans) ++ flat_map (span_bytes f) w.spans))

-- the number of the format among the bytes of a packet
abbrev pub packet_byte : Format → ℕ
packet_byte One = 241
packet_byte Two = 242

-- the format, the kind, and what the kind asks for
abbrev pub packet_bytes : Format → Packet → List ℕ
packet_bytes f (kinds.Full b) = packet_byte f ∷ 1 ∷ batch_bytes f b.ops
packet_bytes f (kinds.Have w) = packet_byte f ∷ 2 ∷ intervals_bytes f w
packet_bytes f (kinds.Delta b) = packet_byte f ∷ 3 ∷ batch_bytes f b.ops
packet_bytes f (kinds.Data d) = packet_byte f ∷ 4 ∷ data_bytes f d
