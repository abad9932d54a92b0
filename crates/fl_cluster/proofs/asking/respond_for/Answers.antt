use Rattle.std.proofs.Common.{◌∙◌}
use Rattle.fl_cluster.proofs.Failures.{asked_cancel, asked_job, asked_publish, asked_restart, asked_save, asked_tell, begun_job, delivered, only_asked, says_reply}
use Rattle.fl_cluster.proofs.asking.respond_for.Goals as goal

pub returns-in-Job-clause-goes : goal.returns-in-Job-clause-goes
returns-in-Job-clause-goes g c = rw c.in-Job.is (rw c.job_at.ensures at c.ask_seldom.ensures.goes)

pub returns-in-Begin-clause-goes : goal.returns-in-Begin-clause-goes
returns-in-Begin-clause-goes g c = rw c.in-Begin.is (rw c.job_at-in-Begin.ensures at c.begin.ensures.goes)

pub returns-in-Deliver-clause-goes : goal.returns-in-Deliver-clause-goes
returns-in-Deliver-clause-goes g c = rw c.in-Deliver.is c.deliver.ensures.goes

pub returns-in-BeginDeliver-clause-goes : goal.returns-in-BeginDeliver-clause-goes
returns-in-BeginDeliver-clause-goes g c = rw c.in-BeginDeliver.is c.begin_to_take.ensures.goes

pub returns-in-Tell-clause-goes : goal.returns-in-Tell-clause-goes
returns-in-Tell-clause-goes g c = rw c.in-Tell.is c.ask_seldom-in-Tell.ensures.goes

pub returns-in-Save-clause-goes : goal.returns-in-Save-clause-goes
returns-in-Save-clause-goes g c = rw c.in-Save.is c.ask_seldom-in-Save.ensures.goes

pub returns-in-Publish-clause-goes : goal.returns-in-Publish-clause-goes
returns-in-Publish-clause-goes g c = rw c.in-Publish.is c.ask_seldom-in-Publish.ensures.goes

pub returns-in-Cancel-clause-goes : goal.returns-in-Cancel-clause-goes
returns-in-Cancel-clause-goes g c = rw c.in-Cancel.is c.ask_seldom-in-Cancel.ensures.goes

pub returns-in-Restart-clause-goes : goal.returns-in-Restart-clause-goes
returns-in-Restart-clause-goes g c = rw c.in-Restart.is c.ask_seldom-in-Restart.ensures.goes

pub returns-in-Text-clause-goes : goal.returns-in-Text-clause-goes
returns-in-Text-clause-goes g c = rw c.in-Text.is c.text.ensures.goes

pub returns-in-Check-clause-goes : goal.returns-in-Check-clause-goes
returns-in-Check-clause-goes g c = rw (c.in-Check.is, ← (c.as_slice.ensures ∙ c.deref.ensures)) c.check.ensures.goes

pub returns-in-Job-clause-cause : goal.returns-in-Job-clause-cause
returns-in-Job-clause-cause g c says =
    asked_job g.M.K.Keeper.custody g.M.MakesKeepers.making _ _ _ _ _ ((rw c.job_at.ensures at c.ask_seldom.ensures.cause) says)

pub returns-in-Begin-clause-cause : goal.returns-in-Begin-clause-cause
returns-in-Begin-clause-cause g c says =
    begun_job g.M.K.Keeper.custody g.M.MakesKeepers.making _ _ _ _ _ ((rw c.job_at-in-Begin.ensures at c.begin.ensures.cause) (says_reply _ says))

pub returns-in-Deliver-clause-cause : goal.returns-in-Deliver-clause-cause
returns-in-Deliver-clause-cause g c says =
    delivered g.M.K.Keeper.custody g.M.MakesKeepers.making _ _ _ _ (c.deliver.ensures.cause says)

pub returns-in-BeginDeliver-clause-cause : goal.returns-in-BeginDeliver-clause-cause
returns-in-BeginDeliver-clause-cause g c says =
    only_asked g.M.K.Keeper.custody g.M.MakesKeepers.making _ _ _ _ (c.begin_to_take.ensures.cause says)

pub returns-in-Tell-clause-cause : goal.returns-in-Tell-clause-cause
returns-in-Tell-clause-cause g c says =
    asked_tell g.M.K.Keeper.custody g.M.MakesKeepers.making _ _ _ _ (c.ask_seldom-in-Tell.ensures.cause says)

pub returns-in-Save-clause-cause : goal.returns-in-Save-clause-cause
returns-in-Save-clause-cause g c says =
    asked_save g.M.K.Keeper.custody g.M.MakesKeepers.making _ _ _ _ (c.ask_seldom-in-Save.ensures.cause says)

pub returns-in-Publish-clause-cause : goal.returns-in-Publish-clause-cause
returns-in-Publish-clause-cause g c says =
    asked_publish g.M.K.Keeper.custody g.M.MakesKeepers.making _ _ _ _ (c.ask_seldom-in-Publish.ensures.cause says)

pub returns-in-Cancel-clause-cause : goal.returns-in-Cancel-clause-cause
returns-in-Cancel-clause-cause g c says =
    asked_cancel g.M.K.Keeper.custody g.M.MakesKeepers.making _ _ _ _ (c.ask_seldom-in-Cancel.ensures.cause says)

pub returns-in-Restart-clause-cause : goal.returns-in-Restart-clause-cause
returns-in-Restart-clause-cause g c says =
    rw c.in-Restart.is (asked_restart g.M.K.Keeper.custody g.M.MakesKeepers.making _ _ _ _ (c.ask_seldom-in-Restart.ensures.cause says))

pub returns-in-Text-clause-cause : goal.returns-in-Text-clause-cause
returns-in-Text-clause-cause g c says =
    only_asked g.M.K.Keeper.custody g.M.MakesKeepers.making _ _ _ _ (c.text.ensures.cause says)

pub returns-in-Check-clause-cause : goal.returns-in-Check-clause-cause
returns-in-Check-clause-cause g c says =
    only_asked g.M.K.Keeper.custody g.M.MakesKeepers.making _ _ _ _ (c.check.ensures.cause says)
