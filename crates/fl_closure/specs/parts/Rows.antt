-- Rows of capabilities, one for each group and one for everybody.
use Rattle.std.specs.Prelude.{◌≡◌, ◌⊎◌, ◌↔◌, ℕ, Option, Some, None, List, unwrap_or}
use Rattle.std.specs.HashMap.{HashMap, get as look}
use Rattle.std.specs.List.{Contains}
use Rattle.fl_labels.specs.Caps.{Caps}
use Rattle.fl_labels.specs.Found.{Within}
use Rattle.fl_labels.specs.declared.name.Name.{Name}
use Rattle.fl_labels.specs.declared.cap.Cap.{Cap}
use Rattle.fl_labels.specs.contracts.name.NamePartialEq.TheImpl as names
use Rattle.fl_closure.specs.contracts.place.PlacePartialEq.TheImpl as places
use Rattle.fl_closure.specs.declared.place.Place.{Place}
use Rattle.fl_closure.specs.declared.block.Block.{Block}
use Rattle.fl_closure.specs.declared.witness.Witness.{Witness}
use Rattle.fl_closure.specs.declared.row.Row.{Row}
use Rattle.fl_closure.specs.declared.rows.Rows.{Rows}
use Rattle.fl_closure.specs.declared.rows.Owner.{Owner}
use Rattle.fl_closure.specs.declared.rows.Owner.TheVariants.{Everybody, Group}
use Rattle.fl_closure.specs.parts.Block.{IsIn, AreIn}
use Rattle.fl_closure.specs.parts.Bits.{Bits, Has}
use Rattle.fl_closure.specs.parts.Row.{bits_in}

-- the bits of a row, if there is one
abbrev pub row_bits : Option Row → Bits
row_bits None p = 0
row_bits (Some row) p = bits_in row p

-- the same of everybody's row
abbrev pub bits_among : {S : Type 0} → HashMap Place ℕ S → Bits
bits_among row p = unwrap_or (look places.ghosts.eq row p) 0

abbrev pub bits_at : Rows → Owner → Bits
bits_at rows (Group name) p = row_bits (look names.ghosts.eq rows.groups name) p
bits_at rows Everybody p = bits_among rows.everybody p

abbrev pub Holds : Rows → Owner → Caps
Holds rows owner c = Has (bits_at rows owner) c

-- this owner, and what is in the block
abbrev pub At : Owner → Block → Owner → Caps
At owner block other c = (other ≡ owner) × IsIn block c

-- this owner, and what is in the blocks
abbrev pub OfOne : Owner → List Block → Owner → Caps
OfOne owner blocks other c = (other ≡ owner) × AreIn blocks c

-- the owner's group is one of these
abbrev pub IsNamed : List Name → Owner → Type 0
IsNamed names (Group name) = Contains names name
IsNamed names Everybody = ⊥

-- these groups, and what is in the blocks
abbrev pub OfEach : List Name → List Block → Owner → Caps
OfEach names blocks owner c = IsNamed names owner × AreIn blocks c

-- the rows have these pairs too
pub record Adds (old : Rows) (pairs : Owner → Caps) (new : Rows) : Type 0 where
  pub holds : (owner : Owner) (c : Cap) → Holds new owner c ↔ (Holds old owner c ⊎ pairs owner c)

-- the rows have none of these pairs
pub record Takes (old : Rows) (pairs : Owner → Caps) (new : Rows) : Type 0 where
  pub holds : (owner : Owner) (c : Cap) → Holds new owner c ↔ (Holds old owner c × ¬ pairs owner c)

-- each row is as it was
pub record IsSameRows (old new : Rows) : Type 0 where
  pub holds : (owner : Owner) (c : Cap) → Holds new owner c ↔ Holds old owner c

-- what a look into the owner's row for c came upon
pub record ComesUpon (rows : Rows) (owner : Owner) (c : Cap) (w : Witness) : Type 0 where
  pub by : w.owner ≡ owner
  pub among : IsIn w.block c
  pub held : Within (IsIn w.block) (Holds rows owner)
