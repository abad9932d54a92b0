use Rattle.std.proofs.Common.{ap, subst, sym}
use Rattle.fl_jobs.specs.declared.job.Act.TheVariants.{Spawn}
use Rattle.fl_jobs.specs.declared.job.Job.TheVariants.{By}
use Rattle.fl_bench.specs.Jobs.{Does}
use Rattle.fl_monitor.specs.parts.Acts.{Births, Sequel, bearing}
use Rattle.fl_monitor.proofs.JobLemmas.{of_birth, refused_does, settled_does, end_refused, end_done}
use Rattle.fl_monitor.proofs.Kept.{ends_kept}
use Rattle.fl_monitor.proofs.bench.Bench.live.Goals as goal

pub returns-in_err-child-in-Spawn-clause-does : goal.returns-in_err-child-in-Spawn-clause-does
returns-in_err-child-in-Spawn-clause-does g c =
    rw c.in-Spawn.is
    (of_birth c.into_inner.ensures
    (subst (Does _ c.args.self.now (By c.args.pid (Spawn c.into_inner.result)) c.from_residual.result) c.self.view_is
    (refused_does _ _ c.args.self.now c.self.view_is c.args.pid _ c.spawn.ensures.acts _ (ap bearing c.in_err-child-in-Spawn.was) c.from_residual.result c.from_residual.ensures)))

pub returns-in_ok-child-in-Spawn-clause-does : goal.returns-in_ok-child-in-Spawn-clause-does
returns-in_ok-child-in-Spawn-clause-does g c =
    rw c.in-Spawn.is
    (of_birth c.into_inner.ensures
    (settled_does _ _ c.args.self.now c.self.view_is c.args.pid _ c.spawn.ensures.acts (Sequel.birth c.in_ok-child-in-Spawn.child) (ap bearing c.in_ok-child-in-Spawn.was) _ _
    (subst (λ b. Births b c.in_ok-child-in-Spawn.child c.bear.result c.bear.new.self) (sym c.self.view_is) c.bear.ensures)))

pub returns-in_err-end-in-Exit-clause-does : goal.returns-in_err-end-in-Exit-clause-does
returns-in_err-end-in-Exit-clause-does g c =
    rw c.in-Exit.is
    (end_refused _ _ c.args.self.now c.self-in-Exit.view_is c.args.pid c.end.ensures _ c.in_err-end-in-Exit.was _ c.from_residual-in_err-end-in-Exit.ensures)

pub returns-in_ok-end-in-Exit-clause-does : goal.returns-in_ok-end-in-Exit-clause-does
returns-in_ok-end-in-Exit-clause-does g c =
    rw c.in-Exit.is (end_done _ _ c.args.self.now c.self-in-Exit.view_is c.args.pid c.end.ensures _ c.in_ok-end-in-Exit.was)

pub invariant_of-self : goal.invariant_of-self
invariant_of-self g c = let i = c.self-in-Exit.invariant in (i.0, (i.1.0, ends_kept i.1.1 c.end.ensures))

pub invariant_of-self-in-Exit : goal.invariant_of-self-in-Exit
invariant_of-self-in-Exit g c = let i = c.self-in-Exit.invariant in (i.0, (i.1.0, ends_kept i.1.1 c.end.ensures))
