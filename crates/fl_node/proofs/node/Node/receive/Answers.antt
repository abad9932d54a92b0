use Rattle.std.proofs.Common.{◌∙◌, sym, arith}
use Rattle.std.proofs.lemmas.Result.{err_from_is_err_and}
use Rattle.fl_system.specs.Receives.{Receives}
use Rattle.fl_node.proofs.ReceiveLemmas.{refused_as, nothing_new, is_taken}
use Rattle.fl_node.proofs.node.Node.receive.Goals as goal

pub returns-in_err-running-clause-receives : goal.returns-in_err-running-clause-receives
returns-in_err-running-clause-receives g c =
    let p = err_from_is_err_and c.from_residual.result c.from_residual.ensures.1 in
    rw (p.1, p.2, ← c.self.view_is) (Receives.stopped c.in_err-running.ensures.err)

pub returns-in-Err-clause-receives : goal.returns-in-Err-clause-receives
returns-in-Err-clause-receives g c =
    let refused = rw (← c.self.view_is) at c.in-Err.ensures.err in
    rw (← c.self.view_is) (refused_as _ _ _ c.in_ok-running.ensures.ok refused)

pub returns-then-count-eq0-clause-receives : goal.returns-then-count-eq0-clause-receives
returns-then-count-eq0-clause-receives g c =
    let can = rw (← c.self.view_is) at c.in-Ok.ensures.can in
    let lacks = rw (← c.self.view_is) at c.in-Ok.ensures.lacking in
    rw (← c.self.view_is) (nothing_new _ _ c.in-Ok.new can lacks c.in_ok-running.ensures.ok (sym c.len-count.ensures ∙ c.if-count-eq0.true))

pub returns-in_err-idle-clause-receives : goal.returns-in_err-idle-clause-receives
returns-in_err-idle-clause-receives g c =
    let p = err_from_is_err_and c.from_residual-in_err-idle.result c.from_residual-in_err-idle.ensures.1 in
    let can = rw (← c.self.view_is) at c.in-Ok.ensures.can in
    let lacks = rw (← c.self.view_is) at c.in-Ok.ensures.lacking in
    rw (p.1, p.2, ← c.self.view_is) (is_taken _ _ c.in-Ok.new can lacks _ c.in_ok-running.ensures.ok (omega arith) c.in_err-idle.ensures.err)

pub returns-clause-receives : goal.returns-clause-receives
returns-clause-receives g c =
    let can = rw (← c.self.view_is) at c.in-Ok.ensures.can in
    let lacks = rw (← c.self.view_is) at c.in-Ok.ensures.lacking in
    rw (c.len-count.ensures, ← c.self.view_is) (Receives.receives c.in_ok-idle.ensures.ok can lacks (omega arith))
