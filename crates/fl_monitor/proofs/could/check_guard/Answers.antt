use Rattle.std.proofs.Common.{refl}
use Rattle.fl_labels.specs.SetBy.{In}
use Rattle.fl_ops.specs.Registry.{InEffect, Listed}
use Rattle.fl_monitor.proofs.CouldLemmas.{no_order, not_guarded}
use Rattle.fl_monitor.proofs.could.check_guard.Goals as goal

pub returns-then-not-guards-clause-checked : goal.returns-then-not-guards-clause-checked
returns-then-not-guards-clause-checked g c = rw c.if-not-guards.true (not_guarded (InEffect (Listed (g.V.View.list c.args.view.now)) (In c.args.owned.now)) c.args.secrecy.now c.args.act.now)

pub returns-in_default : goal.returns-in_default
returns-in_default g c = record { checked = rw c.if-not-guards.false (no_order (InEffect (Listed (g.V.View.list c.args.view.now)) (In c.args.owned.now)) c.args.secrecy.now c.args.act.now c.in_default.not-Order); same = refl }
