use Rattle.std.proofs.Common.{ap, sym, ◌∙◌}
use Rattle.std.specs.Result.{is_ok}
use Rattle.fl_monitor.proofs.holder.Runs.meet.Goals as goal

pub returns-in-Ok : goal.returns-in-Ok
returns-in-Ok c = sym (ap is_ok c.in-Ok.is) ∙ c.seek.ensures

pub returns-in-Err : goal.returns-in-Err
returns-in-Err c = sym (ap is_ok c.in-Err.is) ∙ c.seek.ensures
