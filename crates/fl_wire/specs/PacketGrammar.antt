-- The fields of a packet as bytes have them, in either format, in order: where each begins, and whether it is there and keeps the rules.
use Rattle.std.specs.Prelude.{ℕ, zero, suc, ◌+◌, ◌-◌, ◌*◌, Bool, ◌&&◌, List, [], ◌∷◌, ◌++◌, length, Option, slice_index, nat_le, ◌==◌, if◌then◌else◌}
use Rattle.fl_ops.specs.declared.format.Format.{Format}
use Rattle.fl_ops.specs.declared.format.Format.TheVariants.{One, Two}
use Rattle.fl_ops.specs.Format.{format_byte, node_size, last_kind}
use Rattle.fl_ops.specs.Bytes.{name_size, cap_size, body_place}
use Rattle.fl_ops.specs.Grammar.{first_fault, has_byte, node_at, has_name, body_fields}
use Rattle.fl_wire.specs.Fields.{is_next, short_at, long_at, has_short, pid_size, pid_fields, tag_key, has_cap, cap_key, rising_fields}

-- a process, and one of its endpoints
abbrev pub end_fields : Format → List ℕ → ℕ → List (ℕ × Bool)
end_fields f bytes at = pid_fields f bytes at ++ (at + pid_size f, has_byte bytes (at + pid_size f) 1 64) ∷ []

-- how many bytes these take
abbrev pub end_size : Format → ℕ
end_size f = pid_size f + 1

abbrev pub tag_fields : Format → List ℕ → ℕ → ℕ → List (ℕ × Bool)
tag_fields f bytes at count = rising_fields (has_name f bytes) (tag_key f bytes) (name_size f) at [] count

-- a label: how many tags, and the tags
abbrev pub label_fields : Format → List ℕ → ℕ → List (ℕ × Bool)
label_fields f bytes at = (at, has_short bytes at 0 256) ∷ tag_fields f bytes (at + 2) (short_at bytes at)

-- where a label ends
abbrev pub after_label : Format → List ℕ → ℕ → ℕ
after_label f bytes at = at + (2 + name_size f * short_at bytes at)

abbrev pub each_cap : Format → List ℕ → ℕ → ℕ → List (ℕ × Bool)
each_cap f bytes at count = rising_fields (has_cap f bytes) (cap_key f bytes) (cap_size f) at [] count

-- a set of capabilities: how many, and each
abbrev pub caps_fields : Format → List ℕ → ℕ → List (ℕ × Bool)
caps_fields f bytes at = (at, has_byte bytes at 0 64) ∷ each_cap f bytes (at + 1) (slice_index bytes at)

-- where a set of capabilities ends
abbrev pub after_caps : Format → List ℕ → ℕ → ℕ
after_caps f bytes at = at + (1 + cap_size f * slice_index bytes at)

-- how many bytes, the bytes, and nothing after them
abbrev pub payload_fields : List ℕ → ℕ → List (ℕ × Bool)
payload_fields bytes at =
    (at, has_short bytes at 0 1024)
    ∷ (at + 2, nat_le (at + 2 + short_at bytes at) (length bytes))
    ∷ (at + 2 + short_at bytes at, nat_le (length bytes) (at + 2 + short_at bytes at))
    ∷ []

-- how many items of it are kept: it itself, its capabilities and its bytes
abbrev pub message_kept : Format → List ℕ → ℕ → ℕ
message_kept f bytes at = 1 + (slice_index bytes at + short_at bytes (after_caps f bytes at))

abbrev pub message_fields : Format → List ℕ → ℕ → List (ℕ × Bool)
message_fields f bytes at = caps_fields f bytes at ++ payload_fields bytes (after_caps f bytes at)

-- the labels, and the message
abbrev pub content_fields : Format → List ℕ → ℕ → List (ℕ × Bool)
content_fields f bytes at =
    label_fields f bytes at
    ++ (label_fields f bytes (after_label f bytes at) ++ message_fields f bytes (after_label f bytes (after_label f bytes at)))

-- how many items of them are kept: tags, the message, its capabilities and its bytes
abbrev pub content_kept : Format → List ℕ → ℕ → ℕ
content_kept f bytes at =
    short_at bytes at
    + (short_at bytes (after_label f bytes at)
    + message_kept f bytes (after_label f bytes (after_label f bytes at)))

-- the sender's end and the receiver's
abbrev pub data_head : Format → List ℕ → ℕ → List (ℕ × Bool)
data_head f bytes at = end_fields f bytes at ++ end_fields f bytes (at + end_size f)

-- these, and what is sent
abbrev pub data_fields : Format → List ℕ → ℕ → List (ℕ × Bool)
data_fields f bytes at = end_fields f bytes at ++ (end_fields f bytes (at + end_size f) ++ content_fields f bytes (at + 2 * end_size f))

abbrev pub data_kept : Format → List ℕ → ℕ → ℕ
data_kept f bytes at = content_kept f bytes (at + 2 * end_size f)

-- an operation, of a name above the one before
abbrev pub next_op : Format → List ℕ → ℕ → List ℕ → List (ℕ × Bool)
next_op f bytes at before =
    (at, has_byte bytes at (format_byte f) (format_byte f))
    ∷ (at + 1, has_byte bytes (at + 1) 1 (last_kind f))
    ∷ (at + 2, is_next (has_name f bytes) (tag_key f bytes) (at + 2) before)
    ∷ body_fields f bytes (slice_index bytes (at + 1)) (at + body_place f)

-- how many bytes an operation takes, by its kind
abbrev pub op_size : Format → ℕ → ℕ
op_size f kind =
    if kind == 1 then body_place f + 1
    else (if kind == 2 then body_place f
    else (if kind == 3 then body_place f + (name_size f + cap_size f)
    else (if kind == 4 then body_place f + (cap_size f + 32)
    else body_place f + name_size f)))

-- so many operations from a place on, and nothing after them
abbrev pub ops_fields : Format → List ℕ → ℕ → List ℕ → ℕ → List (ℕ × Bool)
ops_fields f bytes at before zero = (at, nat_le (length bytes) at) ∷ []
ops_fields f bytes at before (suc count) =
    next_op f bytes at before
    ++ ops_fields f bytes (at + op_size f (slice_index bytes (at + 1))) (tag_key f bytes (at + 2)) count

-- how many operations
abbrev pub batch_head : List ℕ → ℕ → List (ℕ × Bool)
batch_head bytes at = (at, has_byte bytes at 1 64) ∷ []

-- that, and each
abbrev pub batch_fields : Format → List ℕ → ℕ → List (ℕ × Bool)
batch_fields f bytes at = batch_head bytes at ++ ops_fields f bytes (at + 1) [] (slice_index bytes at)

abbrev pub batch_kept : List ℕ → ℕ → ℕ
batch_kept bytes at = slice_index bytes at

-- the rank of the name at a place, and that of the last name of the span there
abbrev pub rank_at : Format → List ℕ → ℕ → ℕ
rank_at f bytes at = (node_at f bytes at - 1) * 4294967296 + long_at bytes (at + node_size f)

abbrev pub last_at : Format → List ℕ → ℕ → ℕ
last_at f bytes at = (node_at f bytes at - 1) * 4294967296 + long_at bytes (at + name_size f)

-- how many bytes a span takes
abbrev pub span_size : Format → ℕ
span_size f = name_size f + 4

-- a span from one rank on, up to another
abbrev pub span_fields : Format → List ℕ → ℕ → ℕ → ℕ → List (ℕ × Bool)
span_fields f bytes at low high =
    (at, has_name f bytes at && nat_le low (rank_at f bytes at))
    ∷ (
      at + name_size f,
      nat_le (at + span_size f) (length bytes)
          && (nat_le (rank_at f bytes at) (last_at f bytes at) && nat_le (last_at f bytes at) high),
    )
    ∷ []

-- so many spans from a place on, between each two of them a name at least, and nothing after them
abbrev pub spans_fields : Format → List ℕ → ℕ → ℕ → ℕ → ℕ → List (ℕ × Bool)
spans_fields f bytes at low high zero = (at, nat_le (length bytes) at) ∷ []
spans_fields f bytes at low high (suc count) =
    span_fields f bytes at low high ++ spans_fields f bytes (at + span_size f) (last_at f bytes at + 2) high count

-- the two ends of a window, and how many spans
abbrev pub window_head : Format → List ℕ → ℕ → List (ℕ × Bool)
window_head f bytes at =
    (at, has_name f bytes at)
    ∷ (at + name_size f, has_name f bytes (at + name_size f) && nat_le (rank_at f bytes at) (rank_at f bytes (at + name_size f)))
    ∷ (at + 2 * name_size f, has_short bytes (at + 2 * name_size f) 0 512)
    ∷ []

-- these, and each span
abbrev pub window_fields : Format → List ℕ → ℕ → List (ℕ × Bool)
window_fields f bytes at =
    window_head f bytes at
    ++ spans_fields f bytes (at + (2 * name_size f + 2)) (rank_at f bytes at) (rank_at f bytes (at + name_size f))
    (short_at bytes (at + 2 * name_size f))

-- how many spans
abbrev pub window_kept : Format → List ℕ → ℕ → ℕ
window_kept f bytes at = short_at bytes (at + 2 * name_size f)

-- what follows the kind: operations, a window, operations, or a message
abbrev pub kind_fields : Format → List ℕ → ℕ → List (ℕ × Bool)
kind_fields f bytes kind =
    if kind == 1 then batch_fields f bytes 2
    else (if kind == 2 then window_fields f bytes 2
    else (if kind == 3 then batch_fields f bytes 2
    else data_fields f bytes 2))

-- what of it says how much follows, or from whom and for whom a message is
abbrev pub kind_head : Format → List ℕ → ℕ → List (ℕ × Bool)
kind_head f bytes kind =
    if kind == 1 then batch_head bytes 2
    else (if kind == 2 then window_head f bytes 2
    else (if kind == 3 then batch_head bytes 2
    else data_head f bytes 2))

-- how many items of it are kept: operations, spans, operations, or tags, capabilities and bytes
abbrev pub kind_kept : Format → List ℕ → ℕ → ℕ
kind_kept f bytes kind =
    if kind == 1 then batch_kept bytes 2
    else (if kind == 2 then window_kept f bytes 2
    else (if kind == 3 then batch_kept bytes 2
    else data_kept f bytes 2))

-- the format that a byte says
abbrev pub packet_format : ℕ → Format
packet_format byte = if byte == 241 then One else Two

-- the format and the kind, and the head of what the kind asks for
abbrev pub packet_head : List ℕ → List (ℕ × Bool)
packet_head bytes =
    (0, has_byte bytes 0 241 242)
    ∷ (1, has_byte bytes 1 1 4)
    ∷ kind_head (packet_format (slice_index bytes 0)) bytes (slice_index bytes 1)

-- the format and the kind, and what the kind asks for
abbrev pub packet_fields : List ℕ → List (ℕ × Bool)
packet_fields bytes =
    (0, has_byte bytes 0 241 242)
    ∷ (1, has_byte bytes 1 1 4)
    ∷ kind_fields (packet_format (slice_index bytes 0)) bytes (slice_index bytes 1)

-- how many items of a packet are kept
abbrev pub packet_kept : List ℕ → ℕ
packet_kept bytes = kind_kept (packet_format (slice_index bytes 0)) bytes (slice_index bytes 1)

-- the place of the first fault, if there is one
abbrev pub packet_fault : List ℕ → Option ℕ
packet_fault bytes = first_fault (packet_fields bytes)
