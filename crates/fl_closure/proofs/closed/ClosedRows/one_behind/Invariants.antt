use Rattle.std.specs.Prelude.{take}
use Rattle.fl_closure.specs.parts.Closed.{Behind}
use Rattle.fl_closure.proofs.Leading.{NoneOf}
use Rattle.fl_closure.proofs.closed.ClosedRows.one_behind.Given as goal

abbrev pub invariant-loop-root : goal.invariant-loop-root
invariant-loop-root l = NoneOf (λ root. Behind l.self.reached root l.cap) (take l.root-index l.roots)
