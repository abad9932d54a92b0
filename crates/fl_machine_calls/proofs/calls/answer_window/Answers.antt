use Rattle.fl_machine_calls.proofs.Alone.{stopped}
use Rattle.fl_machine_calls.proofs.Failing.{stop_failed}
use Rattle.fl_machine_calls.proofs.calls.answer_window.Goals as goal

pub returns-in-Err-clause-err : goal.returns-in-Err-clause-err
returns-in-Err-clause-err g c =
    stopped g.K.Keeper.custody c.args.node.now c.args.window.now c.in-Err.fault c.in-Err.ensures.err

pub returns-in-Err-clause-cause : goal.returns-in-Err-clause-cause
returns-in-Err-clause-cause g c = stop_failed _ _ c.in-Err.ensures.err
