use Rattle.std.proofs.Common.{◌∙◌, sym, ap, ℕ, refl}
use Rattle.std.specs.BTreeMap.{BTreeMap}
use Rattle.fl_system.specs.declared.event.Event.TheVariants as event
use Rattle.fl_node.specs.Over.{NodeOver}
use Rattle.fl_nodes.proofs.Entries.{held, unchanged}
use Rattle.fl_nodes.proofs.CallLemmas.{no_such_left}
use Rattle.fl_nodes.proofs.FailLemmas.{no_refusal_missing}
use Rattle.fl_nodes.proofs.Unfailing.{job_replied}
use Rattle.fl_nodes.proofs.JobLemmas.{answers_always, found_one, left_same, no_such_job, worked}
use Rattle.fl_nodes.proofs.Highs.{unraised, looked_up, left_up}
use Rattle.fl_nodes.proofs.Unsaved.{worked_saved}
use Rattle.fl_nodes.proofs.nodes.Nodes.job.Goals as goal

pub returns-in_default-clause-goes : goal.returns-in_default-clause-goes
returns-in_default-clause-goes g c =
    no_such_left g.K.Keeper.custody c.args.self.now _ (event.Job c.args.number c.args.look.desk c.args.look.upto c.args.job.now)
    (unchanged c.self.inside.all.entries _ c.self.inside.sent.items c.self.inside.audit.items c.args.self.now c.self.view_is (ap (λ (t : BTreeMap ℕ (NodeOver g.row.K.Denot)). t.entries) c.get_mut.follows.holds-at-none))
    (sym (held c.self.inside.all.entries c.self.inside.all.entries c.self.inside.sent.items c.self.inside.audit.items c.args.self.now c.self.view_is c.args.number) ∙ sym c.in_default.ensures.value)

pub returns-then-lacks-clause-goes : goal.returns-then-lacks-clause-goes
returns-then-lacks-clause-goes g c =
    no_such_job g.K.Keeper.custody c.self.inside.all.entries _ c.self.inside.sent.items c.self.inside.audit.items c.args.self.now c.self.view_is
    c.args.number c.args.look.desk c.args.look.upto c.args.job.now c.in-Some.node.now c.in-Some.node.now (sym c.in-Some.ensures.value) (c.get_mut.follows.holds c.in-Some.node.now).0
    refl (c.lacks.ensures.lacking c.if-lacks.true)

pub returns-clause-goes : goal.returns-clause-goes
returns-clause-goes g c =
    worked g.K.Keeper.custody c.self.inside.all.entries _ c.self.inside.sent.items c.self.inside.audit.items c.args.self.now c.self.view_is
    c.args.number c.args.look.desk c.args.look.upto c.args.job.now c.in-Some.node.now c.work.new.node (sym c.in-Some.ensures.value) (c.get_mut.follows.holds c.work.new.node).0
    _ _ _ c.work.ensures.keeper (c.lacks.ensures.there c.if-lacks.false)
    c.work.ensures.works

pub returns-in_default-clause-cause : goal.returns-in_default-clause-cause
returns-in_default-clause-cause g c failed = no_refusal_missing _ failed

pub returns-then-lacks-clause-cause : goal.returns-then-lacks-clause-cause
returns-then-lacks-clause-cause g c failed = no_refusal_missing _ failed

pub returns-clause-cause : goal.returns-clause-cause
returns-clause-cause g c =
    job_replied _ _ _ _ _ _ _ _ _ _ _ c.work.ensures.works

pub invariant_of-self-then-lacks : goal.invariant_of-self-then-lacks
invariant_of-self-then-lacks g c = (
  c.self.invariant.0,
  looked_up c.self.inside.highest c.self.inside.desks c.self.inside.all.entries _ c.args.number c.in-Some.node.now
      (sym c.in-Some.ensures.value) (c.get_mut.follows.holds c.in-Some.node.now).0 c.self.invariant.1,
)

pub invariant_of-self-2 : goal.invariant_of-self-2
invariant_of-self-2 g c = (
  c.self.invariant.0,
  unraised c.self.inside.highest c.self.inside.desks c.self.inside.all.entries _ c.args.number c.in-Some.node.now c.work.new.node
      (sym c.in-Some.ensures.value) (c.get_mut.follows.holds c.work.new.node).0 c.self.invariant.1
      (worked_saved _ _ _ _ _ _ _ _ _ _ _ c.work.ensures.works) c.work.ensures.desks,
)

pub invariant_of-self : goal.invariant_of-self
invariant_of-self g c =
    (c.self.invariant.0, left_up c.self.inside.highest c.self.inside.desks c.self.inside.all.entries _ (ap (λ (t : BTreeMap ℕ (NodeOver g.row.K.Denot)). t.entries) c.get_mut.follows.holds-at-none) c.self.invariant.1)

pub returns-in_default-clause-left : goal.returns-in_default-clause-left
returns-in_default-clause-left g c is = (
  unchanged c.self.inside.all.entries _ c.self.inside.sent.items c.self.inside.audit.items c.args.self.now c.self.view_is
      (ap (λ (t : BTreeMap ℕ (NodeOver g.row.K.Denot)). t.entries) c.get_mut.follows.holds-at-none),
  refl,
)

pub returns-then-lacks-clause-left : goal.returns-then-lacks-clause-left
returns-then-lacks-clause-left g c is = (
  left_same g.K.Keeper.custody c.self.inside.all.entries _ c.self.inside.sent.items c.self.inside.audit.items c.args.self.now c.self.view_is
      c.args.number c.args.look.desk c.args.look.upto c.args.job.now c.in-Some.node.now c.in-Some.node.now
      (sym c.in-Some.ensures.value) (c.get_mut.follows.holds c.in-Some.node.now).0 refl,
  refl,
)

pub returns-clause-nowhere : goal.returns-clause-nowhere
returns-clause-nowhere g c none =
    absurd (found_one g.K.Keeper.custody c.self.inside.all.entries _ c.self.inside.sent.items c.self.inside.audit.items c.args.self.now c.self.view_is
    c.args.number c.args.look.desk c.args.look.upto c.args.job.now c.in-Some.node.now c.work.new.node
    (sym c.in-Some.ensures.value) (c.get_mut.follows.holds c.work.new.node).0 none)

pub returns-clause-left : goal.returns-clause-left
returns-clause-left g c is = absurd (answers_always c.work.ensures.works.works is)
