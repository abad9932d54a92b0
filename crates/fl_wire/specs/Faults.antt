-- What a reader's fault says of the fields that it read.
use Rattle.std.specs.Prelude.{◌≡◌, ◌<◌, ℕ, Bool, List, Some, None}
use Rattle.fl_ops.specs.Grammar.{first_fault}
use Rattle.fl_wire.specs.declared.fault.ReadFault.{ReadFault}
use Rattle.fl_wire.specs.declared.fault.ReadFault.TheVariants.{BadPacket, Memory}

-- the first fault of these fields
abbrev pub IsBad : List (ℕ × Bool) → ReadFault → Type 0
IsBad fields (BadPacket place) = first_fault fields ≡ Some place
IsBad fields Memory = ⊥

-- that, or no memory for what is kept: for so many items, of which there is one at least
abbrev pub IsBadOrMemory : ℕ → List (ℕ × Bool) → ReadFault → Type 0
IsBadOrMemory kept fields (BadPacket place) = first_fault fields ≡ Some place
IsBadOrMemory kept fields Memory = 0 < kept

-- that, where the fields of the head are there
abbrev pub IsBadOrMemoryAfter : List (ℕ × Bool) → ℕ → List (ℕ × Bool) → ReadFault → Type 0
IsBadOrMemoryAfter head kept fields (BadPacket place) = first_fault fields ≡ Some place
IsBadOrMemoryAfter head kept fields Memory = (first_fault head ≡ None) × (0 < kept)

-- the first fault of these fields, or no memory for what is kept, where they have none
abbrev pub IsFaultOrMemory : List (ℕ × Bool) → ℕ → ReadFault → Type 0
IsFaultOrMemory fields kept (BadPacket place) = first_fault fields ≡ Some place
IsFaultOrMemory fields kept Memory = (first_fault fields ≡ None) × (0 < kept)
