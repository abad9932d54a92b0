use Rattle.std.proofs.Common.{◌∙◌}
use Rattle.fl_monitor.proofs.JobLemmas.{answered_does, births_does, arrives_does, reaches_does}
use Rattle.fl_monitor.proofs.ActLemmas.{answers_of}
use Rattle.fl_monitor.proofs.Kept.{acts_kept, arrives_kept}
use Rattle.fl_monitor.proofs.bench.Bench.job.Goals as goal

pub returns-in-Proc-clause-does : goal.returns-in-Proc-clause-does
returns-in-Proc-clause-does g c = rw c.in-Proc.is (births_does _ c.args.self.now c.proc.ensures)

pub returns-in-By-clause-does : goal.returns-in-By-clause-does
returns-in-By-clause-does g c = rw c.in-By.is (answered_does _ _ c.args.self.now c.self.view_is c.in-By.pid _ c.act.result _ c.act.ensures.acts)

pub returns-in-Member-clause-does : goal.returns-in-Member-clause-does
returns-in-Member-clause-does g c = rw c.in-Member.is (reaches_does _ c.args.self.now c.in-Member.root c.in-Member.cap _ (answers_of c.reaches.result _ c.reply_of.ensures c.reaches.ensures.answer))

pub arrive-requires : goal.arrive-requires
arrive-requires g c = (_, c.replace-in-Arrive.ensures.value ∙ c.in-Arrive.is)

pub returns-in-Arrive-clause-does : goal.returns-in-Arrive-clause-does
returns-in-Arrive-clause-does g c = rw c.in-Arrive.is (arrives_does _ _ c.args.self.now c.self-in-Arrive.view_is _ (c.arrive.ensures _ (c.replace-in-Arrive.ensures.value ∙ c.in-Arrive.is)))

pub invariant_of-self : goal.invariant_of-self
invariant_of-self g c = let i = c.self.invariant in (i.0, (i.1.0, acts_kept i.1.1 c.act.ensures.acts))

pub invariant_of-self-in-Arrive : goal.invariant_of-self-in-Arrive
invariant_of-self-in-Arrive g c = let i = c.self-in-Arrive.invariant in (i.0, (i.1.0, arrives_kept i.1.1 (c.arrive.ensures _ (c.replace-in-Arrive.ensures.value ∙ c.in-Arrive.is))))
