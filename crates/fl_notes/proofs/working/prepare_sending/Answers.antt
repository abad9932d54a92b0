use Rattle.std.proofs.Common.{◌∙◌, sym, subst}
use Rattle.fl_system.specs.Waiting.{IsRunning}
use Rattle.fl_notes.specs.Working.{IsUnready}
use Rattle.fl_notes.proofs.WorkLemmas.{not_running}
use Rattle.fl_notes.proofs.working.prepare_sending.Goals as goal

pub returns-in-Stopped-clause-err : goal.returns-in-Stopped-clause-err
returns-in-Stopped-clause-err g c = IsUnready.stopped (not_running _ _ (sym c.state.ensures ∙ c.in-Stopped.is))

pub returns-in-Err-clause-err : goal.returns-in-Err-clause-err
returns-in-Err-clause-err g c =
    IsUnready.no_room (subst IsRunning (sym (sym c.state.ensures ∙ c.in_default.is)) tt) c.in-Err.ensures.err
