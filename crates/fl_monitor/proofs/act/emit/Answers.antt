use Rattle.std.proofs.Common.{◌∙◌, ap, refl, sym}
use Rattle.fl_jobs.specs.declared.job.Act.TheVariants.{Emit}
use Rattle.fl_bench.specs.declared.process.Holding.TheVariants.{Idle}
use Rattle.fl_monitor.proofs.ActLemmas.{act_busy, act_kept_in, act_emit, held_behind}
use Rattle.fl_monitor.proofs.act.emit.Goals as goal

pub returns-in_default-clause-acts : goal.returns-in_default-clause-acts
returns-in_default-clause-acts g c bytes is = act_busy _ c.args.pid c.args.process.now (Emit bytes) c.in_default.not-Idle

pub returns-in_err-check-clause-acts : goal.returns-in_err-check-clause-acts
returns-in_err-check-clause-acts g c bytes is =
    let idle = c.in-Idle.is ∙ ap Idle (sym c.caps.ensures) in
    held_behind _ c.args.pid c.args.process.now (Emit bytes) idle
    (act_kept_in _ c.args.pid c.args.process.now (Emit bytes) _ idle _ refl c.check.ensures.checked _ c.in_err-check.was _ c.from_residual.ensures)

pub returns-clause-acts : goal.returns-clause-acts
returns-clause-acts g c bytes is =
    let idle = c.in-Idle.is ∙ ap Idle (sym c.caps.ensures) in
    held_behind _ c.args.pid c.args.process.now (Emit bytes) idle
    (act_emit _ c.args.pid c.args.process.now (Emit bytes) _ idle _ (sym is ∙ sym c.replace.ensures.value ∙ c.in-Emit.is) c.check.ensures.checked _ c.in_ok-check.was)
