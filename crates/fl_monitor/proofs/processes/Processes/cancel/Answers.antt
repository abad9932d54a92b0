use Rattle.std.proofs.Common.{[]}
use Rattle.fl_monitor.proofs.Given.{receives_there, receives_nobody}
use Rattle.fl_monitor.proofs.processes.Processes.cancel.Goals as goal

pub returns-in_default : goal.returns-in_default
returns-in_default c =
    receives_nobody c.self.inside.all c.args.self.now c.args.pid c.self.view_is []
    c.in_default.ensures.value

pub returns : goal.returns
returns c =
    receives_there c.self.inside.all c.args.self.now c.args.pid c.self.view_is []
    c.in-Some.process.now c.cancel.new.self c.in-Some.ensures.value c.cancel.ensures
