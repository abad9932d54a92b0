use Rattle.std.proofs.Common.{◌∙◌, ap, sym, subst, Ok}
use Rattle.std.specs.FinMap as map
use Rattle.fl_monitor.specs.parts.Acts.{Ends}
use Rattle.fl_monitor.proofs.Given.{there, nobody}
use Rattle.fl_monitor.proofs.processes.Processes.end.Goals as goal

pub returns-in_default : goal.returns-in_default
returns-in_default c = Ends.nobody (nobody c.self.inside.all c.args.self.now c.args.pid c.self.view_is c.in_default.ensures)

pub returns-in_default-owned : goal.returns-in_default-owned
returns-in_default-owned c =
    Ends.busy (there c.self.inside.all c.args.self.now c.args.pid c.self.view_is c.in-Some.process.now c.in-Some.ensures)
    c.in_default-owned.not-Idle

pub returns : goal.returns
returns c =
    subst (Ends c.args.self.now c.args.pid (Ok tt))
    (sym (c.remove.ensures ∙ ap (λ n. map.remove n c.args.pid) c.self.view_is))
    (Ends.ended (there c.self.inside.all c.args.self.now c.args.pid c.self.view_is c.in-Some.process.now c.in-Some.ensures) c.in-Idle.is)
