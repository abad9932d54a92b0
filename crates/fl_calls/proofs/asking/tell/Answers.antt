use Rattle.fl_calls.proofs.Failures.{stopped_otherwise}
use Rattle.fl_calls.proofs.AskingLemmas.{tells_running, tells_stopped}
use Rattle.fl_calls.proofs.asking.tell.Goals as goal

pub returns-in-Ok-clause-tells : goal.returns-in-Ok-clause-tells
returns-in-Ok-clause-tells g c =
    tells_running g.K.Keeper.custody c.args.world.now c.args.number c.in-Some.node.now c.in-Some.ensures c.in-Ok.ensures.ok

pub returns-in-Err-clause-tells : goal.returns-in-Err-clause-tells
returns-in-Err-clause-tells g c =
    tells_stopped g.K.Keeper.custody c.args.world.now c.args.number c.in-Some.node.now c.in-Err.fault c.refused.result
    c.in-Some.ensures c.in-Err.ensures.err c.refused.ensures

pub returns-in-Err-clause-cause : goal.returns-in-Err-clause-cause
returns-in-Err-clause-cause g c = stopped_otherwise _ _ _ c.in-Err.ensures.err c.refused.ensures
