use Rattle.std.proofs.Common.{◌+◌, ◌-◌, ◌*◌, ◌≤◌}
use Rattle.fl_wire.proofs.SpansRead.{SpansWalked}
use Rattle.fl_wire.proofs.walk.walk_spans.Given as goal

-- how many spans are left, and where the next one is
abbrev pub invariant-loop-i : goal.invariant-loop-i
invariant-loop-i l =
    SpansWalked l.format l.bytes l.at l.from l.to l.count l.place l.low (l.count - l.i) × (l.place ≤ l.at + 12 * l.i)
