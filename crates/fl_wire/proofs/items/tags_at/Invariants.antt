use Rattle.std.proofs.Common.{◌≡◌, ◌+◌, ◌-◌, ◌*◌, ◌≤◌}
use Rattle.fl_labels.specs.Name.{name_cmp}
use Rattle.fl_ops.specs.Bytes.{name_bytes, name_size}
use Rattle.fl_ops.specs.Fits.{HasName}
use Rattle.fl_ops.specs.Grammar.{has_name}
use Rattle.fl_wire.specs.Fields.{tag_key}
use Rattle.fl_wire.specs.parts.Items.{name_key}
use Rattle.fl_wire.proofs.Sets.{ReadTo}
use Rattle.fl_wire.proofs.items.tags_at.Given as goal

-- the items so far, how many are left, and where the next one is
abbrev pub invariant-loop-i : goal.invariant-loop-i
invariant-loop-i l =
    ReadTo name_cmp (HasName l.format) (name_bytes l.format) name_key (has_name l.format l.bytes) (tag_key l.format l.bytes) (name_size l.format) l.bytes l.at l.count l.place (l.count - l.i) l.tags.items l.before
    × (l.place ≡ l.at + name_size l.format * l.i) × (l.place ≤ l.at + 8 * l.i)
