use Rattle.std.proofs.Common.{◌∙◌}
use Rattle.fl_machine_calls.specs.parts.Emitting.{IsHeldBack}
use Rattle.fl_machine_calls.proofs.Failing.{said_otherwise, starved_otherwise}
use Rattle.fl_machine_calls.proofs.Guards.{lets_out, holds_back}
use Rattle.fl_machine_calls.proofs.Numbers.{still_same}
use Rattle.fl_machine_calls.proofs.guarding.emit_nothing.Goals as goal

pub returns-in_default-clause-held : goal.returns-in_default-clause-held
returns-in_default-clause-held g c = IsHeldBack.no_room

pub returns-in_default-clause-cause : goal.returns-in_default-clause-cause
returns-in_default-clause-cause g c = said_otherwise _ starved_otherwise

pub returns-in_default-clause-same : goal.returns-in_default-clause-same
returns-in_default-clause-same g c = still_same _

pub returns-then-is_out-clause-out : goal.returns-then-is_out-clause-out
returns-then-is_out-clause-out g c =
    lets_out g.K.Keeper.custody c.args.node.now c.job-said.new.node c.args.pid c.in-Ok.nothing
    c.job-said.result.1 _ (c.in-Ok.ensures ∙ c.new.ensures) c.job-said.ensures.goes
    (c.is_out.ensures.yes c.if-is_out.true)

pub returns-clause-held : goal.returns-clause-held
returns-clause-held g c =
    holds_back g.K.Keeper.custody c.args.node.now c.job-said.new.node c.args.pid c.in-Ok.nothing
    c.job-said.result.1 _ (c.in-Ok.ensures ∙ c.new.ensures) c.job-said.ensures.goes
    (c.is_out.ensures.no c.if-is_out.false)
