-- Capabilities at places, and a bit for each.
use Rattle.std.specs.Prelude.{◌≡◌, ℕ, ◌+◌, ◌*◌, ◌/◌, ◌%◌, List}
use Rattle.std.specs.Int.{bit_at}
use Rattle.std.specs.List.{Contains}
use Rattle.std.specs.declared.cmp.Ordering.{Ordering}
use Rattle.std.specs.Ordering.{nat_cmp, ordering_then}
use Rattle.fl_labels.specs.Cap.{cap_name, cap_rank}
use Rattle.fl_labels.specs.Caps.{Caps}
use Rattle.fl_labels.specs.declared.cap.Cap.{Cap}
use Rattle.fl_closure.specs.declared.place.Place.{Place}
use Rattle.fl_closure.specs.declared.block.Block.{Block}

-- by the part, then the node
abbrev pub place_cmp : Place → Place → Ordering
place_cmp a b = ordering_then (nat_cmp a.part b.part) (nat_cmp a.node b.node)

-- the least number there, and the rank of the kind
unfoldable pub place_of : Cap → Place
place_of c = record {
  node = (cap_name c).node;
  part = (cap_name c).seq / 32 * 32 + cap_rank c;
  node_in_range = (cap_name c).node_in_range;
}

unfoldable pub bit_of : Cap → ℕ
bit_of c = (cap_name c).seq % 32

-- the bits have that of the capability
abbrev pub Marks : ℕ → Cap → Type 0
Marks bits c = bit_at bits (bit_of c) ≡ 1

abbrev pub IsIn : Block → Caps
IsIn block c = (place_of c ≡ block.place) × Marks block.bits c

-- one of these blocks has it
abbrev pub AreIn : List Block → Caps
AreIn blocks c = (block : Block) × Contains blocks block × IsIn block c
