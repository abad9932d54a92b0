use Rattle.std.proofs.Common.{◌∙◌, ap, refl, sym}
use Rattle.fl_jobs.specs.declared.job.Act.TheVariants.{Order}
use Rattle.fl_bench.specs.declared.process.Holding.TheVariants.{Idle, Ordering}
use Rattle.fl_monitor.proofs.ActLemmas.{act_busy, act_unchecked, act_full, act_order, over}
use Rattle.fl_monitor.proofs.act.order.Goals as goal

pub returns-in_default-clause-acts : goal.returns-in_default-clause-acts
returns-in_default-clause-acts g c = act_busy _ c.args.pid c.args.process.now (Order c.args.order) c.in_default.not-Idle

pub returns-in_err-check-clause-acts : goal.returns-in_err-check-clause-acts
returns-in_err-check-clause-acts g c =
    over _ c.args.pid c.args.process.now (Order c.args.order) (λ s. record c.args.process.now { owned = Idle s }) c.caps.ensures
    (act_unchecked _ c.args.pid c.args.process.now (Order c.args.order) _ (c.in-Idle.is ∙ ap Idle (sym c.caps.ensures)) _ refl c.check.ensures.checked _ c.in_err-check.was _ c.from_residual.ensures)

pub returns-in_default-begin-clause-acts : goal.returns-in_default-begin-clause-acts
returns-in_default-begin-clause-acts g c =
    act_full _ c.args.pid c.args.process.now (Order c.args.order) _ (c.in-Idle.is ∙ ap Idle (sym c.caps.ensures)) _ refl c.check.ensures.checked _ c.in_ok-check.was _ (c.in_default-begin.ensures.err ∙ ap Idle (sym c.caps.ensures))

pub returns-in_default-new-clause-acts : goal.returns-in_default-new-clause-acts
returns-in_default-new-clause-acts g c =
    over _ c.args.pid c.args.process.now (Order c.args.order) (λ s. record c.args.process.now { owned = Idle s }) c.caps.ensures
    (act_full _ c.args.pid c.args.process.now (Order c.args.order) _ (c.in-Idle.is ∙ ap Idle (sym c.caps.ensures)) _ refl c.check.ensures.checked _ c.in_ok-check.was _ refl)

pub returns-clause-acts : goal.returns-clause-acts
returns-clause-acts g c =
    act_order _ c.args.pid c.args.process.now (Order c.args.order) _ (c.in-Idle.is ∙ ap Idle (sym c.caps.ensures)) _ refl c.check.ensures.checked _ c.in_ok-check.was _ (c.in-Ok.ensures ∙ c.body_of_order.ensures) _ (c.in-Ok-begin.ensures.ok ∙ ap Ordering (sym c.caps.ensures))
