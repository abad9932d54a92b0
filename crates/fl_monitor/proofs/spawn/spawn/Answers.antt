use Rattle.fl_monitor.proofs.ActLemmas.{spawns_not, spawns_one}
use Rattle.fl_monitor.proofs.spawn.spawn.Goals as goal

pub returns-in_err-check-clause-spawns : goal.returns-in_err-check-clause-spawns
returns-in_err-check-clause-spawns g c = spawns_not _ _ c.args.caps c.check.ensures.checked _ c.in_err-check.was c.from_residual.result c.from_residual.ensures

pub returns-clause-spawns : goal.returns-clause-spawns
returns-clause-spawns g c = spawns_one _ _ c.args.caps c.check.ensures.checked _ c.in_ok-check.was c.child_with.result c.child_with.ensures
