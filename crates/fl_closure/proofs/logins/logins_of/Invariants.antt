use Rattle.std.specs.Prelude.{take}
use Rattle.fl_ops.specs.Registry.{Listed}
use Rattle.fl_closure.specs.parts.Knowing.{AreLogins}
use Rattle.fl_closure.proofs.logins.logins_of.Given as goal

abbrev pub invariant-loop-op : goal.invariant-loop-op
invariant-loop-op l = AreLogins (Listed (take l.op-index l.ops)) l.logins
