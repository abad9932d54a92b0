use Rattle.std.proofs.Common.{sym, ◌∙◌}
use Rattle.std.proofs.lemmas.Bool.{false≢true}
use Rattle.fl_labels.specs.SetBy.{In}
use Rattle.fl_chains.proofs.Parting.{no_step_to, step_near, step_far}
use Rattle.fl_chains.proofs.legs.step_to.Goals as goal

pub returns-in_err-step : goal.returns-in_err-step
returns-in_err-step c = rw (c.from_residual.ensures)
    (no_step_to (In c.args.near.now) c.args.op.now c.of.result c.of.ensures c.in_err-step.was)

pub returns-then-contains : goal.returns-then-contains
returns-then-contains c =
    step_near (In c.args.near.now) c.args.op.now c.of.result c.of.ensures c.in_ok-step.step
    c.in_ok-step.was (sym c.contains.ensures ∙ c.if-contains.true)

pub returns-else-contains : goal.returns-else-contains
returns-else-contains c =
    step_far (In c.args.near.now) c.args.op.now c.of.result c.of.ensures c.in_ok-step.step
    c.in_ok-step.was
    (λ h. false≢true (sym c.if-contains.false ∙ c.contains.ensures ∙ h))
