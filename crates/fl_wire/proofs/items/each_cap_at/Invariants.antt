use Rattle.std.proofs.Common.{◌≡◌, ◌+◌, ◌-◌, ◌*◌, ◌≤◌}
use Rattle.fl_labels.specs.Cap.{cap_cmp}
use Rattle.fl_ops.specs.Bytes.{cap_bytes, cap_size}
use Rattle.fl_ops.specs.Fits.{HasCap}
use Rattle.fl_wire.specs.Fields.{has_cap, cap_key}
use Rattle.fl_wire.specs.parts.Items.{key_of_cap}
use Rattle.fl_wire.proofs.Sets.{ReadTo}
use Rattle.fl_wire.proofs.items.each_cap_at.Given as goal

-- the items so far, how many are left, and where the next one is
abbrev pub invariant-loop-i : goal.invariant-loop-i
invariant-loop-i l =
    ReadTo cap_cmp (HasCap l.format) (cap_bytes l.format) key_of_cap (has_cap l.format l.bytes) (cap_key l.format l.bytes) (cap_size l.format) l.bytes l.at l.count l.place (l.count - l.i) l.caps.items l.before
    × (l.place ≡ l.at + cap_size l.format * l.i) × (l.place ≤ l.at + 9 * l.i)
