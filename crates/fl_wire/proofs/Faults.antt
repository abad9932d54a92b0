-- The first fault of fields in a row.
use Rattle.std.proofs.Common.{◌≡◌, ℕ, ◌≤◌, arith, Bool, true, false, List, [], ◌∷◌, ◌++◌, Some, None, refl, ◌∙◌}
use Rattle.fl_ops.specs.Grammar.{first_fault}
use Rattle.fl_wire.specs.declared.fault.ReadFault.{ReadFault}
use Rattle.fl_wire.specs.declared.fault.ReadFault.TheVariants.{BadPacket, Memory}
use Rattle.fl_wire.specs.Faults.{IsBad, IsBadOrMemory, IsBadOrMemoryAfter}

-- a fault of the first fields is one of all
pub fault_front : (fs gs : List (ℕ × Bool)) (place : ℕ) → first_fault fs ≡ Some place → first_fault (fs ++ gs) ≡ Some place
fault_front [] gs place h = absurd (cc)
fault_front ((at, true) ∷ fs) gs place h = fault_front fs gs place h
fault_front ((at, false) ∷ fs) gs place h = h

-- after fields without a fault the others are looked at
pub fault_rest : (fs gs : List (ℕ × Bool)) → first_fault fs ≡ None → first_fault (fs ++ gs) ≡ first_fault gs
fault_rest [] gs h = refl
fault_rest ((at, true) ∷ fs) gs h = fault_rest fs gs h
fault_rest ((at, false) ∷ fs) gs h = absurd (cc)

pub is_bad_front : (fs gs : List (ℕ × Bool)) (f : ReadFault) → IsBad fs f → IsBad (fs ++ gs) f
is_bad_front fs gs (BadPacket place) h = fault_front fs gs place h
is_bad_front fs gs Memory h = h

-- fields of one fault
pub is_bad_same : (fs gs : List (ℕ × Bool)) (f : ReadFault) → first_fault fs ≡ first_fault gs → IsBad gs f → IsBad fs f
is_bad_same fs gs (BadPacket place) same h = same ∙ h
is_bad_same fs gs Memory same h = h

pub bad_front : (kept : ℕ) (fs gs : List (ℕ × Bool)) (f : ReadFault) → IsBadOrMemory kept fs f → IsBadOrMemory kept (fs ++ gs) f
bad_front kept fs gs (BadPacket place) h = fault_front fs gs place h
bad_front kept fs gs Memory h = h

pub bad_rest : (kept : ℕ) (fs gs : List (ℕ × Bool)) (f : ReadFault) → first_fault fs ≡ None → IsBadOrMemory kept gs f → IsBadOrMemory kept (fs ++ gs) f
bad_rest kept fs gs (BadPacket place) none h = fault_rest fs gs none ∙ h
bad_rest kept fs gs Memory none h = h

-- no want of memory is a want of memory or not
pub bad_only : (kept : ℕ) (fs : List (ℕ × Bool)) (f : ReadFault) → IsBad fs f → IsBadOrMemory kept fs f
bad_only kept fs (BadPacket place) h = h
bad_only kept fs Memory h = absurd h

pub bad_next : (kept at : ℕ) (there : Bool) (fs : List (ℕ × Bool)) (f : ReadFault) → there ≡ true → IsBadOrMemory kept fs f → IsBadOrMemory kept ((at, there) ∷ fs) f
bad_next kept at there fs (BadPacket place) is h = rw is h
bad_next kept at there fs Memory is h = h

pub bad_at : (kept : ℕ) (fs : List (ℕ × Bool)) (place : ℕ) (f : ReadFault) → f ≡ BadPacket place → first_fault fs ≡ Some place → IsBadOrMemory kept fs f
bad_at kept fs place f is h = rw is h

-- memory that is wanted for some is wanted for more
pub bad_more : (some more : ℕ) (fs : List (ℕ × Bool)) (f : ReadFault) → some ≤ more → IsBadOrMemory some fs f → IsBadOrMemory more fs f
bad_more some more fs (BadPacket place) within h = h
bad_more some more fs Memory within h = omega arith

-- after a head without a fault, memory may be wanted
pub bad_after : (head : List (ℕ × Bool)) (kept : ℕ) (fs : List (ℕ × Bool)) (f : ReadFault) → first_fault head ≡ None → IsBadOrMemory kept fs f → IsBadOrMemoryAfter head kept fs f
bad_after head kept fs (BadPacket place) none h = h
bad_after head kept fs Memory none h = (none, h)
