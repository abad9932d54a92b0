use Rattle.fl_monitor.proofs.Entries.{enters_refused, enters_starved, enters_by}
use Rattle.fl_monitor.proofs.enter.enter.Goals as goal

pub returns-in_err-cap-clause-enters : goal.returns-in_err-cap-clause-enters
returns-in_err-cap-clause-enters g c = enters_refused _ c.args.owned.now c.args.login c.args.secret _ c.in_err-cap.ensures.err c.from_residual.result c.from_residual.ensures

pub returns-in_default-clause-enters : goal.returns-in_default-clause-enters
returns-in_default-clause-enters g c = enters_starved _ c.args.owned.now c.args.login c.args.secret _ c.in_ok-cap.ensures.ok _ c.in_default.ensures.err c.in_default.ensures.absent

pub returns-clause-enters : goal.returns-clause-enters
returns-clause-enters g c = enters_by _ c.args.owned.now c.args.login c.args.secret _ c.in_ok-cap.ensures.ok _ c.in-Ok.ensures.ok
