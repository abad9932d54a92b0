use Rattle.std.proofs.Common.{None, Some}
use Rattle.fl_monitor.proofs.CouldLemmas.{bears_nobody, by_done, by_refused, by_spent, same_bench, spawn_asks}
use Rattle.fl_monitor.proofs.bench.Bench.could_by.Goals as goal

pub returns-in_err-reply-clause-could : goal.returns-in_err-reply-clause-could
returns-in_err-reply-clause-could g c = by_refused c.args.guards _ _ c.args.self.now c.self.view_is c.args.pid c.args.act.now c.could_act.ensures.could _ c.in_err-reply.was c.from_residual.result c.from_residual.ensures

pub returns-in_err-next_serial-in-Spawn-clause-could : goal.returns-in_err-next_serial-in-Spawn-clause-could
returns-in_err-next_serial-in-Spawn-clause-could g c =
    by_spent c.args.guards _ _ c.args.self.now c.self.view_is c.args.pid c.args.act.now c.could_act.ensures.could _ c.in_ok-reply.was _
    (spawn_asks c.args.guards _ _ c.args.self.now c.self.view_is c.args.pid c.args.act.now c.could_act.ensures.could _ c.in-Spawn.is (Some _) c.in_err-next_serial-in-Spawn.ensures.err)
    c.from_residual-in_err-next_serial-in-Spawn.result c.from_residual-in_err-next_serial-in-Spawn.ensures

pub returns-in_ok-next_serial-in-Spawn-clause-could : goal.returns-in_ok-next_serial-in-Spawn-clause-could
returns-in_ok-next_serial-in-Spawn-clause-could g c =
    by_done c.args.guards _ _ c.args.self.now c.self.view_is c.args.pid c.args.act.now c.could_act.ensures.could _ c.in_ok-reply.was
    (spawn_asks c.args.guards _ _ c.args.self.now c.self.view_is c.args.pid c.args.act.now c.could_act.ensures.could _ c.in-Spawn.is None c.in_ok-next_serial-in-Spawn.ensures.ok.1)

pub returns-in_default : goal.returns-in_default
returns-in_default g c = record {
  could = by_done c.args.guards _ _ c.args.self.now c.self.view_is c.args.pid c.args.act.now c.could_act.ensures.could _ c.in_ok-reply.was (bears_nobody c.args.self.now c.args.act.now c.in_default.not-Spawn);
  same = same_bench _ c.args.self.now c.self.view_is _ c.could_act.ensures.kept;
  view = c.could_act.ensures.same;
}
