use Rattle.std.proofs.Common.{◌≡◌, ◌+◌, ◌-◌, ◌*◌, ◌≤◌}
use Rattle.fl_ops.specs.Bytes.{cap_size}
use Rattle.fl_wire.specs.Fields.{has_cap, cap_key}
use Rattle.fl_wire.specs.parts.Items.{key_of_cap}
use Rattle.fl_wire.proofs.Sets.{WalkedTo}
use Rattle.fl_wire.proofs.walk.walk_each_cap.Given as goal

-- how many items are left, and where the next one is
abbrev pub invariant-loop-i : goal.invariant-loop-i
invariant-loop-i l =
    WalkedTo key_of_cap (has_cap l.format l.bytes) (cap_key l.format l.bytes) (cap_size l.format) l.at l.count l.place (l.count - l.i) l.before
    × (l.place ≡ l.at + cap_size l.format * l.i) × (l.place ≤ l.at + 9 * l.i)
