use Rattle.std.proofs.Common.{◌≡◌, ◌+◌, ◌-◌, ◌*◌, ◌≤◌}
use Rattle.fl_ops.specs.Bytes.{name_size}
use Rattle.fl_ops.specs.Grammar.{has_name}
use Rattle.fl_wire.specs.Fields.{tag_key}
use Rattle.fl_wire.specs.parts.Items.{name_key}
use Rattle.fl_wire.proofs.Sets.{WalkedTo}
use Rattle.fl_wire.proofs.walk.walk_tags.Given as goal

-- how many items are left, and where the next one is
abbrev pub invariant-loop-i : goal.invariant-loop-i
invariant-loop-i l =
    WalkedTo name_key (has_name l.format l.bytes) (tag_key l.format l.bytes) (name_size l.format) l.at l.count l.place (l.count - l.i) l.before
    × (l.place ≡ l.at + name_size l.format * l.i) × (l.place ≤ l.at + 8 * l.i)
