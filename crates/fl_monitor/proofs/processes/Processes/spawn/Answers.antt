use Rattle.std.proofs.Common.{◌∙◌, Err, Some, refl, subst}
use Rattle.fl_labels.specs.PidOrder.{pid_total, pid_exact}
use Rattle.fl_ops.specs.Registry.{Listed}
use Rattle.fl_jobs.specs.declared.answer.Refusal.TheVariants.{Busy}
use Rattle.fl_jobs.specs.declared.job.Act.TheVariants.{Spawn}
use Rattle.fl_mailbox.specs.laws.Tables.{put_same}
use Rattle.fl_monitor.specs.parts.Acts.{ActsAt, bearing}
use Rattle.fl_monitor.proofs.ActLemmas.{act_busy, act_spawn}
use Rattle.fl_monitor.proofs.Given.{there, nobody}
use Rattle.fl_monitor.proofs.processes.Processes.spawn.Goals as goal

pub returns-in_default-clause-acts : goal.returns-in_default-clause-acts
returns-in_default-clause-acts g c = ActsAt.nobody (nobody c.self.inside.all c.args.self.now c.args.pid c.self.view_is c.in_default.ensures)

pub returns-in_default-owned-clause-acts : goal.returns-in_default-owned-clause-acts
returns-in_default-owned-clause-acts g c =
    let V = Listed (g.V.View.list c.args.view.now) in
    let p = c.in-Some.process.now in
    let stands = there c.self.inside.all c.args.self.now c.args.pid c.self.view_is p c.in-Some.ensures in
    subst (ActsAt V c.args.self.now c.args.pid (Spawn c.args.caps) (Err Busy))
    (put_same pid_total pid_exact c.args.self.now c.args.pid p stands)
    (ActsAt.did stands (act_busy V c.args.pid p (Spawn c.args.caps) c.in_default-owned.not-Idle))

pub returns-clause-acts : goal.returns-clause-acts
returns-clause-acts g c =
    let V = Listed (g.V.View.list c.args.view.now) in
    let p = c.in-Some.process.now in
    let owned = c.in-Idle.owned in
    let stands = there c.self.inside.all c.args.self.now c.args.pid c.self.view_is p c.in-Some.ensures in
    let spawns = rw c.caps-2.ensures at c.spawn.ensures.spawns in
    subst (ActsAt V c.args.self.now c.args.pid (Spawn c.args.caps) (bearing c.spawn.result))
    (put_same pid_total pid_exact c.args.self.now c.args.pid _ (stands ∙ (λ i. Some (record p { owned = c.in-Idle.is i }))))
    (ActsAt.did stands (act_spawn V c.args.pid p (Spawn c.args.caps) owned c.in-Idle.is c.args.caps refl spawns))
