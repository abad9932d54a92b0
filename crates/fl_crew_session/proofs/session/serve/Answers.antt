use Rattle.std.proofs.Common.{◌∙◌}
use Rattle.fl_crew_turns.specs.Held.{held_jobs}
use Rattle.fl_crew_calls.specs.laws.Calling.{call_serves}
use Rattle.fl_crew_session.proofs.Turning.{serves_each, serves_none}
use Rattle.fl_crew_session.proofs.session.serve.Goals as goal

pub returns-in-Ok : goal.returns-in-Ok
returns-in-Ok g c =
    serves_each _ (held_jobs c.args.batch) c.in-Ok.replies.items c.requires.some
    (call_serves g.M.K.Keeper.custody g.M.MakesKeepers.making _ _ _ _ _ c.in-Ok.ensures.ok)
    (rw (c.deref.ensures.value, c.deref-in-Ok.ensures.value) at c.settle_all.ensures)

pub returns : goal.returns
returns g c =
    serves_none _ (held_jobs c.args.batch) _ c.in-Err.fault c.requires.some
    (call_serves g.M.K.Keeper.custody g.M.MakesKeepers.making _ _ _ _ _ c.in-Err.ensures.err)
    (c.len-count.ensures ∙ c.args.batch.jobs.ok.0)
