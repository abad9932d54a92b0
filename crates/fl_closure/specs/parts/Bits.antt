-- The bits of a row, by their places.
use Rattle.std.specs.Prelude.{◌⊎◌, ◌↔◌, ℕ}
use Rattle.fl_labels.specs.Caps.{Caps}
use Rattle.fl_labels.specs.declared.cap.Cap.{Cap}
use Rattle.fl_closure.specs.declared.place.Place.{Place}
use Rattle.fl_closure.specs.declared.block.Block.{Block}
use Rattle.fl_closure.specs.parts.Block.{place_of, Marks, IsIn}

abbrev pub Bits : Type 0
Bits = Place → ℕ

-- whether the row has the capability
abbrev pub Has : Bits → Caps
Has bits c = Marks (bits (place_of c)) c

-- a row with the block
pub record Joins (old : Bits) (block : Block) (new : Bits) : Type 0 where
  pub holds : (c : Cap) → Has new c ↔ (Has old c ⊎ IsIn block c)

-- a row without it
pub record Parts (old : Bits) (block : Block) (new : Bits) : Type 0 where
  pub holds : (c : Cap) → Has new c ↔ (Has old c × ¬ IsIn block c)

pub record IsSameBits (old new : Bits) : Type 0 where
  pub holds : (c : Cap) → Has new c ↔ Has old c

-- the bits of the block that the row lacks
pub record IsNew (old : Bits) (block : Block) (bits : ℕ) : Type 0 where
  pub are : (c : Cap)
      → IsIn (record { place = block.place; bits = bits }) c ↔ (IsIn block c × ¬ Has old c)
