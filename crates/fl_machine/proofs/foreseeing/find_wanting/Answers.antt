use Rattle.std.proofs.Common.{◌∙◌, sym}
use Rattle.fl_machine_turns.specs.Foreseeing.{FindsWanting}
use Rattle.fl_machine.proofs.Explanations.{explains_not, explains_so}
use Rattle.fl_machine.proofs.Foresights.{finds, finds_no_look, finds_no_room, refuses}
use Rattle.fl_machine.proofs.foreseeing.find_wanting.Goals as goal

pub returns-in-Err : goal.returns-in-Err
returns-in-Err g c = λ keys.
    rw c.refused.ensures (explains_not g.K.Keeper.custody c.args.node.now keys
    (λ n. FindsWanting c.args.guards n c.args.job.now) c.in-Err.fault c.in-Err.ensures.err)

pub returns-in_default-could : goal.returns-in_default-could
returns-in_default-could g c = λ keys.
    rw (c.starved.ensures, c.could.ensures.same)
    (explains_so g.K.Keeper.custody c.args.node.now keys
    (λ n. FindsWanting c.args.guards n c.args.job.now) _ c.in_default.ensures.ok
    (finds_no_look c.in_default-could.ensures.err))

pub returns-then-is_past_mending : goal.returns-then-is_past_mending
returns-then-is_past_mending g c = λ keys.
    rw (c.foretold.ensures, c.could.ensures.same)
    (explains_so g.K.Keeper.custody c.args.node.now keys
    (λ n. FindsWanting c.args.guards n c.args.job.now) _ c.in_default.ensures.ok
    (refuses c.in-Ok.answer c.in-Ok.ensures.could
    (sym c.is_past_mending.ensures ∙ c.if-is_past_mending.true)))

pub returns-in_default-wanting : goal.returns-in_default-wanting
returns-in_default-wanting g c = λ keys.
    rw (c.starved-in_default-wanting.ensures, c.wanting.ensures.same, c.could.ensures.same)
    (explains_so g.K.Keeper.custody c.args.node.now keys
    (λ n. FindsWanting c.args.guards n c.args.job.now) _ c.in_default.ensures.ok
    (finds_no_room c.in-Ok.answer c.in-Ok.ensures.could
    (sym c.is_past_mending.ensures ∙ c.if-is_past_mending.false)
    (rw c.could.ensures.same at c.in_default-wanting.ensures.err)))

pub returns : goal.returns
returns g c = λ keys.
    rw (c.wanting.ensures.same, c.could.ensures.same)
    (explains_so g.K.Keeper.custody c.args.node.now keys
    (λ n. FindsWanting c.args.guards n c.args.job.now) _ c.in_default.ensures.ok
    (finds c.in-Ok.answer c.in-Ok.ensures.could
    (sym c.is_past_mending.ensures ∙ c.if-is_past_mending.false) c.in-Ok-wanting.caps
    (rw c.could.ensures.same at c.in-Ok-wanting.ensures.wanting)))
