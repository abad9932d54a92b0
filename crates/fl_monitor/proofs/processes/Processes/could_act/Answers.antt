use Rattle.fl_monitor.specs.parts.Could.{CouldBy}
use Rattle.fl_monitor.proofs.Given.{there, nobody, same_put}
use Rattle.fl_monitor.proofs.processes.Processes.could_act.Goals as goal

pub returns-in_default-clause-could : goal.returns-in_default-clause-could
returns-in_default-clause-could g c = CouldBy.nobody (nobody c.self.inside.all c.args.self.now c.args.pid c.self.view_is c.in_default.ensures.value)

pub returns-clause-could : goal.returns-clause-could
returns-clause-could g c =
    CouldBy.could (there c.self.inside.all c.args.self.now c.args.pid c.self.view_is c.in-Some.process.now c.in-Some.ensures.value)
    c.could_act.ensures.could

pub returns-clause-kept : goal.returns-clause-kept
returns-clause-kept g c =
    same_put c.self.inside.all c.args.self.now c.args.pid c.self.view_is c.in-Some.process.now
    c.could_act.new.process c.in-Some.ensures.value c.could_act.ensures.kept
