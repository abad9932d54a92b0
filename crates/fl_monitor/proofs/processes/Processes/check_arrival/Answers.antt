use Rattle.fl_monitor.proofs.CouldLemmas.{comes_to, comes_to_busy, comes_to_nobody}
use Rattle.fl_monitor.proofs.Given.{there, nobody}
use Rattle.fl_monitor.proofs.processes.Processes.check_arrival.Goals as goal

pub returns-in_default : goal.returns-in_default
returns-in_default c = comes_to_nobody c.args.self.now c.args.data.now (nobody c.self.inside.all c.args.self.now c.args.data.now.receiver c.self.view_is c.in_default.ensures)

pub returns-in_default-owned : goal.returns-in_default-owned
returns-in_default-owned c =
    comes_to_busy c.args.self.now c.args.data.now _
    (there c.self.inside.all c.args.self.now c.args.data.now.receiver c.self.view_is c.in-Some.process.now c.in-Some.ensures)
    c.in_default-owned.not-Idle

pub returns : goal.returns
returns c =
    comes_to c.args.self.now c.args.data.now _
    (there c.self.inside.all c.args.self.now c.args.data.now.receiver c.self.view_is c.in-Some.process.now c.in-Some.ensures)
    _ c.in-Idle.is c.check_arrival.ensures
