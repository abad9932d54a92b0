use Rattle.std.proofs.Common.{refl, inl, inr}
use Rattle.fl_calls.proofs.Failures.{says_starved, stopped_otherwise}
use Rattle.fl_calls.proofs.AskingLemmas.{unites_running, unites_starved, unites_stopped}
use Rattle.fl_calls.proofs.asking.unite.Goals as goal

pub returns-in-Err-clause-unites : goal.returns-in-Err-clause-unites
returns-in-Err-clause-unites g c =
    unites_stopped g.K.Keeper.custody c.args.world.now c.args.first c.args.second c.args.first c.in-Some-Some.one.now
    c.in-Err.fault c.refused.result (inl refl) c.in-Some-Some.ensures c.in-Err.ensures.err c.refused.ensures

pub returns-in-Err-runs-clause-unites : goal.returns-in-Err-runs-clause-unites
returns-in-Err-runs-clause-unites g c =
    unites_stopped g.K.Keeper.custody c.args.world.now c.args.first c.args.second c.args.second c.in-Some-Some.other.now
    c.in-Err-runs.fault c.refused-in-Err-runs.result (inr refl) c.in-Some-Some.ensures' c.in-Err-runs.ensures.err
    c.refused-in-Err-runs.ensures

pub returns-in-Ok-clause-unites : goal.returns-in-Ok-clause-unites
returns-in-Ok-clause-unites g c =
    unites_running g.K.Keeper.custody c.args.world.now c.args.first c.args.second c.in-Some-Some.one.now c.in-Some-Some.other.now
    c.in-Ok.all c.in-Some-Some.ensures c.in-Some-Some.ensures' c.in_default-runs.ensures.ok c.in_default-runs-2.ensures.ok c.in-Ok.ensures.ok

pub returns-in-Err-united-clause-unites : goal.returns-in-Err-united-clause-unites
returns-in-Err-united-clause-unites g c =
    unites_starved g.K.Keeper.custody c.args.world.now c.args.first c.args.second c.in-Some-Some.one.now c.in-Some-Some.other.now
    c.starved.result c.in-Some-Some.ensures c.in-Some-Some.ensures' c.in_default-runs.ensures.ok c.in_default-runs-2.ensures.ok
    c.in-Err-united.ensures.wants c.starved.ensures

pub returns-in-Err-clause-cause : goal.returns-in-Err-clause-cause
returns-in-Err-clause-cause g c = stopped_otherwise _ _ _ c.in-Err.ensures.err c.refused.ensures

pub returns-in-Err-runs-clause-cause : goal.returns-in-Err-runs-clause-cause
returns-in-Err-runs-clause-cause g c =
    stopped_otherwise _ _ _ c.in-Err-runs.ensures.err c.refused-in-Err-runs.ensures

pub returns-in-Err-united-clause-cause : goal.returns-in-Err-united-clause-cause
returns-in-Err-united-clause-cause g c = says_starved _ c.starved.ensures
