use Rattle.std.proofs.Common.{◌∙◌, ap}
use Rattle.fl_monitor.proofs.CouldLemmas.{act_foretold, act_refuses, could_busy, guard_refuses}
use Rattle.fl_monitor.proofs.could.could_act.Goals as goal

pub returns-in_default-clause-could : goal.returns-in_default-clause-could
returns-in_default-clause-could g c = could_busy _ _ c.args.process.now c.args.act.now c.in_default.not-Idle

pub returns-in_err-check_guard-clause-could : goal.returns-in_err-check_guard-clause-could
returns-in_err-check_guard-clause-could g c =
    guard_refuses c.args.process.now _ c.in-Idle.is c.args.guards (g.V.View.list c.args.view.now) c.args.act.now (rw c.caps.ensures at c.check_guard.ensures.checked) _ c.in_err-check_guard.was
    c.from_residual.result c.from_residual.ensures

pub returns-in_err-check_act-clause-could : goal.returns-in_err-check_act-clause-could
returns-in_err-check_act-clause-could g c =
    act_refuses c.args.process.now _ c.in-Idle.is c.args.guards (g.V.View.list c.args.view.now) c.args.act.now (rw c.caps.ensures at c.check_guard.ensures.checked) _ c.in_ok-check_guard.was
    _ (ap (λ v. g.V.View.list v) c.check_guard.ensures.same) c.check_act.ensures.checked _ c.in_err-check_act.was
    c.from_residual-in_err-check_act.result c.from_residual-in_err-check_act.ensures

pub returns-clause-could : goal.returns-clause-could
returns-clause-could g c =
    act_foretold c.args.process.now _ c.in-Idle.is c.args.guards (g.V.View.list c.args.view.now) c.args.act.now (rw c.caps.ensures at c.check_guard.ensures.checked) _ c.in_ok-check_guard.was
    _ (ap (λ v. g.V.View.list v) c.check_guard.ensures.same) c.check_act.ensures.checked _ c.in_ok-check_act.was
    _ (ap (λ v. g.V.View.list v) (c.check_act.ensures.same ∙ c.check_guard.ensures.same)) c.foretold.result
    (rw (c.caps-2.ensures, c.check_act.ensures.kept) at c.foretold.ensures.foretold)
