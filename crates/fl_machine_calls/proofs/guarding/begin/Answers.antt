use Rattle.std.proofs.Common.{◌∙◌}
use Rattle.fl_machine_turns.specs.Completing.{Begins}
use Rattle.fl_machine_turns.specs.Guarding.{job_at}
use Rattle.fl_machine_calls.specs.Saying.{saying_of}
use Rattle.fl_machine_calls.proofs.Completions.{begins}
use Rattle.fl_machine_calls.proofs.Guards.{goes_on, held_back}
use Rattle.fl_machine_calls.proofs.Numbers.{same_after}
use Rattle.fl_machine_calls.proofs.guarding.begin.Goals as goal

pub returns-in-Err-clause-does : goal.returns-in-Err-clause-does
returns-in-Err-clause-does g c =
    held_back g.K.Keeper.custody Begins c.args.guards c.args.job.now c.args.node.now
    c.ask_first.new.node _ _ c.in-Err.ensures.held

pub returns-in-Ok-clause-does : goal.returns-in-Ok-clause-does
returns-in-Ok-clause-does g c =
    goes_on g.K.Keeper.custody Begins c.args.guards c.args.job.now c.args.node.now
    c.ask_first.new.node c.job-said.new.node c.in-Ok.first c.job-said.result.1 (saying_of c.job-said.result.0)
    c.ask_first.ensures.same.number c.in-Ok.ensures.passes
    (begins g.K.Keeper.custody (job_at c.args.job.now) c.ask_first.new.node c.job-said.new.node
    c.job-said.result.1 _ c.job-said.ensures.goes)

pub returns-in-Ok-clause-same : goal.returns-in-Ok-clause-same
returns-in-Ok-clause-same g c = same_after c.ask_first.ensures.same c.job-said.ensures.same

pub returns-in-Ok-clause-keeper : goal.returns-in-Ok-clause-keeper
returns-in-Ok-clause-keeper g c = c.job-said.ensures.keeper ∙ c.ask_first.ensures.keeper
