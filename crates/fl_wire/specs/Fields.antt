-- Fields of a packet that bytes may have at a place, in either format.
use Rattle.std.specs.Prelude.{ℕ, zero, suc, ◌+◌, Bool, ◌&&◌, List, [], ◌∷◌, length, take, drop, is_none, slice_index, nat_lt, nat_le}
use Rattle.std.specs.Int.{w16, w32, from_be_bytes}
use Rattle.std.specs.Cmp.Lexicographic.{slice_cmp}
use Rattle.std.specs.Ordering.{nat_cmp, is_lt}
use Rattle.fl_ops.specs.declared.format.Format.{Format}
use Rattle.fl_ops.specs.Format.{node_size}
use Rattle.fl_ops.specs.Grammar.{node_at, cap_fields, first_fault}

-- the number that two bytes spell, and four
abbrev pub short_at : List ℕ → ℕ → ℕ
short_at bytes at = from_be_bytes w16 (take 2 (drop at bytes))

abbrev pub long_at : List ℕ → ℕ → ℕ
long_at bytes at = from_be_bytes w32 (take 4 (drop at bytes))

-- two bytes, a number from low to high
abbrev pub has_short : List ℕ → ℕ → ℕ → ℕ → Bool
has_short bytes at low high = nat_le (at + 2) (length bytes)
    && (nat_le low (short_at bytes at) && nat_le (short_at bytes at) high)

-- four bytes, a number that is not 0
abbrev pub has_long : List ℕ → ℕ → Bool
has_long bytes at = nat_le (at + 4) (length bytes) && nat_lt 0 (long_at bytes at)

-- the bytes of a node, which is not 0
abbrev pub has_node : Format → List ℕ → ℕ → Bool
has_node f bytes at = nat_le (at + node_size f) (length bytes) && nat_lt 0 (node_at f bytes at)

-- how many bytes a process takes
abbrev pub pid_size : Format → ℕ
pid_size f = node_size f + 8

-- a process: its node, its boot and its serial
abbrev pub pid_fields : Format → List ℕ → ℕ → List (ℕ × Bool)
pid_fields f bytes at =
    (at, has_node f bytes at)
    ∷ (at + node_size f, has_long bytes (at + node_size f))
    ∷ (at + node_size f + 4, has_long bytes (at + node_size f + 4))
    ∷ []

-- what tags are ordered by: the node, then the number
abbrev pub tag_key : Format → List ℕ → ℕ → List ℕ
tag_key f bytes at = node_at f bytes at ∷ long_at bytes (at + node_size f) ∷ []

-- a capability without a fault
abbrev pub has_cap : Format → List ℕ → ℕ → Bool
has_cap f bytes at = is_none (first_fault (cap_fields f bytes at))

-- what capabilities are ordered by: the name, then the kind
abbrev pub cap_key : Format → List ℕ → ℕ → List ℕ
cap_key f bytes at = node_at f bytes (at + 1) ∷ long_at bytes (at + 1 + node_size f) ∷ slice_index bytes at ∷ []

-- an item is at the place, and its key is above this one
abbrev pub is_next : (ℕ → Bool) → (ℕ → List ℕ) → ℕ → List ℕ → Bool
is_next there key at before = there at && is_lt (slice_cmp nat_cmp before (key at))

-- so many items from a place on, all of one size: each is there, and its key is above that of the one before
abbrev pub rising_fields : (ℕ → Bool) → (ℕ → List ℕ) → ℕ → ℕ → List ℕ → ℕ → List (ℕ × Bool)
rising_fields there key size at before zero = []
rising_fields there key size at before (suc count) =
    (at, is_next there key at before) ∷ rising_fields there key size (at + size) (key at) count
