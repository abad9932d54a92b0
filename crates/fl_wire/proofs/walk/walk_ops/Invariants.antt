use Rattle.std.proofs.Common.{◌-◌}
use Rattle.fl_wire.proofs.OpsRead.{OpsWalked}
use Rattle.fl_wire.proofs.walk.walk_ops.Given as goal

-- how many operations are left, and where the next one is
abbrev pub invariant-loop-i : goal.invariant-loop-i
invariant-loop-i l = OpsWalked l.format l.bytes l.at l.count l.place (l.count - l.i) l.before
