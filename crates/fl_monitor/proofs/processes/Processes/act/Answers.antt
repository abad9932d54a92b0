use Rattle.std.proofs.Common.{sym, subst, Err}
use Rattle.fl_ops.specs.Registry.{Listed}
use Rattle.fl_jobs.specs.declared.answer.Refusal.TheVariants.{NoProcess}
use Rattle.fl_monitor.specs.parts.Acts.{ActsAt, answered}
use Rattle.fl_monitor.proofs.Given.{there, nobody, put}
use Rattle.fl_monitor.proofs.processes.Processes.act.Goals as goal

pub returns-in_default-clause-acts : goal.returns-in_default-clause-acts
returns-in_default-clause-acts g c =
    let old = c.args.self.now in
    let pid = c.args.pid in
    let none = nobody c.self.inside.all old pid c.self.view_is c.in_default.ensures.value in
    subst (ActsAt (Listed (g.V.View.list c.args.view.now)) old pid c.args.act.now (Err (NoProcess pid)))
    (sym c.self.view_is) (ActsAt.nobody none)

pub returns-clause-acts : goal.returns-clause-acts
returns-clause-acts g c =
    let old = c.args.self.now in
    let pid = c.args.pid in
    let all = c.self.inside.all in
    let is_there = there all old pid c.self.view_is c.in-Some.process.now c.in-Some.ensures.value in
    subst (ActsAt (Listed (g.V.View.list c.args.view.now)) old pid c.args.act.now (answered c.act_alone.result))
    (sym (put all old pid c.self.view_is c.act_alone.new.process))
    (ActsAt.did is_there c.act_alone.ensures.acts)
