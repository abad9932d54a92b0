-- The fields of an operation as bytes have them, in either format: where each begins, and whether it is there and in its range.
use Rattle.std.specs.Prelude.{ℕ, ◌+◌, Bool, ◌&&◌, List, [], ◌∷◌, ◌++◌, length, take, drop, Option, Some, None, slice_index, nat_lt, nat_le, ◌==◌, if◌then◌else◌}
use Rattle.std.specs.Int.{w32, from_be_bytes}
use Rattle.fl_ops.specs.declared.format.Format.{Format}
use Rattle.fl_ops.specs.declared.format.Format.TheVariants.{One, Two}
use Rattle.fl_ops.specs.Format.{node_width, node_size, last_kind}
use Rattle.fl_ops.specs.Bytes.{name_size, cap_size, body_place}

-- the first field that isn't there
abbrev pub first_fault : List (ℕ × Bool) → Option ℕ
first_fault [] = None
first_fault (f ∷ fs) = if f.1 then first_fault fs else Some f.0

-- a byte from low to high
abbrev pub has_byte : List ℕ → ℕ → ℕ → ℕ → Bool
has_byte bytes at low high = nat_lt at (length bytes)
    && (nat_le low (slice_index bytes at) && nat_le (slice_index bytes at) high)

-- the number that the bytes of a node spell
abbrev pub node_at : Format → List ℕ → ℕ → ℕ
node_at f bytes at = from_be_bytes (node_width f) (take (node_size f) (drop at bytes))

-- those of a node and four more, neither of which are 0 as a number
abbrev pub has_name : Format → List ℕ → ℕ → Bool
has_name f bytes at = nat_le (at + name_size f) (length bytes)
    && (nat_lt 0 (node_at f bytes at)
    && nat_lt 0 (from_be_bytes w32 (take 4 (drop (at + node_size f) bytes))))

-- a capability: its kind, and its name
abbrev pub cap_fields : Format → List ℕ → ℕ → List (ℕ × Bool)
cap_fields f bytes at = (at, has_byte bytes at 1 4) ∷ (at + 1, has_name f bytes (at + 1)) ∷ []

-- 32 bytes, whatever they are
abbrev pub has_digest : List ℕ → ℕ → Bool
has_digest bytes at = nat_le (at + 32) (length bytes)

-- what follows the name, by the kind: the policy of a tag, nothing for a group, the group and the capability of a put,
-- the capability and the digest of a login, and the group that is opened
abbrev pub body_fields : Format → List ℕ → ℕ → ℕ → List (ℕ × Bool)
body_fields f bytes kind at =
    if kind == 1 then (at, has_byte bytes at 1 3) ∷ []
    else (if kind == 2 then []
    else (if kind == 3 then (at, has_name f bytes at) ∷ cap_fields f bytes (at + name_size f)
    else (if kind == 4 then cap_fields f bytes at ++ (at + cap_size f, has_digest bytes (at + cap_size f)) ∷ []
    else (at, has_name f bytes at) ∷ [])))

-- what follows the format of an operation that begins at a place
abbrev pub later_fields : Format → List ℕ → ℕ → List (ℕ × Bool)
later_fields f bytes at =
    (at + 1, has_byte bytes (at + 1) 1 (last_kind f))
    ∷ (at + 2, has_name f bytes (at + 2))
    ∷ body_fields f bytes (slice_index bytes (at + 1)) (at + body_place f)

-- the format that a byte says
abbrev pub format_of : ℕ → Format
format_of byte = if byte == 1 then One else Two

-- the fields of an operation of whichever format
abbrev pub op_fields : List ℕ → ℕ → List (ℕ × Bool)
op_fields bytes at = (at, has_byte bytes at 1 2) ∷ later_fields (format_of (slice_index bytes at)) bytes at

-- the place of the first fault of the operation at the front, if there is one
abbrev pub op_fault : List ℕ → Option ℕ
op_fault bytes = first_fault (op_fields bytes 0)
