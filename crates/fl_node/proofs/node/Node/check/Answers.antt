use Rattle.std.proofs.Common.{◌∙◌, ◌<◌, subst, ap, length}
use Rattle.std.proofs.lemmas.Result.{err_from_is_err_and}
use Rattle.fl_gossip.specs.laws.Wanted.{all_wanted}
use Rattle.fl_system.specs.Waiting.{IsRunning}
use Rattle.fl_node.specs.Checking.{Checks}
use Rattle.fl_node.proofs.ReceiveLemmas.{full_checks, delta_checks, window_checks, no_room_checks, message_checks}
use Rattle.fl_node.proofs.node.Node.check.Goals as goal

pub returns-in_err-running : goal.returns-in_err-running
returns-in_err-running g c =
    let p = err_from_is_err_and c.from_residual.result c.from_residual.ensures.1 in
    rw (p.1, p.2, ← c.self.view_is) (Checks.stopped c.in_err-running.ensures.err)

pub returns-in-Full : goal.returns-in-Full
returns-in-Full g c =
    let running = subst (λ x. IsRunning x.node.state) c.self.view_is c.in_ok-running.ensures.ok in
    full_checks _ _ running _ _ c.in-Full.is c.count.ensures

pub returns-in-Delta : goal.returns-in-Delta
returns-in-Delta g c =
    let running = subst (λ x. IsRunning x.node.state) c.self.view_is c.in_ok-running.ensures.ok in
    delta_checks _ _ running _ _ c.in-Delta.is c.count-in-Delta.ensures

pub returns-in-Ok : goal.returns-in-Ok
returns-in-Ok g c = rw (← c.self.view_is) (window_checks _ _ c.in_ok-running.ensures.ok _ _ c.in-Have.is (c.len-in-Ok.ensures ∙ c.in-Ok.lacking.ok.0 ∙ ap length (c.in-Ok.ensures.ok
    ∙ all_wanted _ c.in-Have.window _ c.len.ensures)))

pub returns-in-Err : goal.returns-in-Err
returns-in-Err g c =
    rw (← c.self.view_is) (no_room_checks _ _ c.in_ok-running.ensures.ok _ c.in-Have.is
    (subst (λ ops. 0 < length ops) (all_wanted _ c.in-Have.window _ c.len.ensures) c.in-Err.ensures.wants))

pub returns-in-Data : goal.returns-in-Data
returns-in-Data g c = rw (← c.self.view_is) (message_checks _ _ c.in_ok-running.ensures.ok _ c.in-Data.is)
