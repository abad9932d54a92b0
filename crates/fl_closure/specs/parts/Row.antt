-- The bits of a row of a group.
use Rattle.std.specs.Prelude.{cond, unwrap_or}
use Rattle.std.specs.BTreeMap.{get, is_at}
use Rattle.fl_closure.specs.declared.row.Row.{Row}
use Rattle.fl_closure.specs.parts.Block.{place_cmp}
use Rattle.fl_closure.specs.parts.Bits.{Bits}

-- at the last place what stands there, and else what the others have
abbrev pub bits_in : Row → Bits
bits_in row p = cond (is_at (place_cmp row.last.place) p) row.last.bits (unwrap_or (get place_cmp row.others p) 0)
