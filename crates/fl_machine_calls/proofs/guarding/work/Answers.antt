use Rattle.std.proofs.Common.{◌≡◌, ◌∙◌, ◌+◌, ℕ, sym, arith}
use Rattle.fl_machine_turns.specs.Completing.{Completes}
use Rattle.fl_machine_turns.specs.Guarding.{job_at}
use Rattle.fl_machine_calls.specs.Saying.{saying_of}
use Rattle.fl_machine_calls.proofs.Completions.{completes, ends}
use Rattle.fl_machine_calls.proofs.Failing.{said_reply}
use Rattle.fl_machine_calls.proofs.Guards.{goes_on, held_back}
use Rattle.fl_machine_calls.proofs.Numbers.{same_after}
use Rattle.fl_machine_calls.proofs.guarding.work.Goals as goal

plus_none : (n : ℕ) → n + 0 ≡ n
plus_none n = omega arith

pub returns-in-Err-clause-does : goal.returns-in-Err-clause-does
returns-in-Err-clause-does g c =
    held_back g.K.Keeper.custody Completes c.args.guards c.args.job.now c.args.node.now
    c.ask_first.new.node _ _ c.in-Err.ensures.held

pub returns-in-Err-clause-cause : goal.returns-in-Err-clause-cause
returns-in-Err-clause-cause g c failed = absurd (c.in-Err.ensures.cause failed)

pub returns-then-begun-clause-does : goal.returns-then-begun-clause-does
returns-then-begun-clause-does g c =
    let job = c.job-said in
    goes_on g.K.Keeper.custody Completes c.args.guards c.args.job.now c.args.node.now
    c.ask_first.new.node c.finish.new.node c.in-Ok.count job.result.1 _
    c.ask_first.ensures.same.number c.in-Ok.ensures.passes
    (rw (plus_none job.result.1) at (completes g.K.Keeper.custody (job_at c.args.job.now)
    c.ask_first.new.node job.new.node job.result.1 (saying_of job.result.0) job.ensures.goes
    job.ensures.same.number c.finish.new.node 0 _
    (sym c.begun.ensures ∙ c.if-begun.true) c.finish.ensures.does))

pub returns-then-begun-clause-cause : goal.returns-then-begun-clause-cause
returns-then-begun-clause-cause g c failed = c.finish.ensures.cause (said_reply _ _ failed)

pub returns-then-begun-clause-same : goal.returns-then-begun-clause-same
returns-then-begun-clause-same g c =
    same_after c.ask_first.ensures.same
    (same_after c.job-said.ensures.same c.finish.ensures.same)

pub returns-clause-does : goal.returns-clause-does
returns-clause-does g c =
    let job = c.job-said in
    goes_on g.K.Keeper.custody Completes c.args.guards c.args.job.now c.args.node.now
    c.ask_first.new.node job.new.node c.in-Ok.count job.result.1 (saying_of job.result.0)
    c.ask_first.ensures.same.number c.in-Ok.ensures.passes
    (ends g.K.Keeper.custody (job_at c.args.job.now) c.ask_first.new.node job.new.node
    job.result.1 _ job.ensures.goes (sym c.begun.ensures ∙ c.if-begun.false))

pub returns-clause-cause : goal.returns-clause-cause
returns-clause-cause g c failed = absurd (c.job-said.ensures.cause failed)

pub returns-clause-same : goal.returns-clause-same
returns-clause-same g c = same_after c.ask_first.ensures.same c.job-said.ensures.same
