use Rattle.std.proofs.Common.{subst}
use Rattle.fl_crew_calls.specs.Asking.{IsRestarted}
use Rattle.fl_crew_calls.proofs.manned.Manned.restart.Goals as goal

pub returns : goal.returns
returns g c =
    let done = c.restart-crew.ensures in
    subst (λ s. IsRestarted g.K.Keeper.custody c.args.keeps s c.restart-crew.result.0
    c.restart-crew.result.1) c.self.view_is (record {
      seated = done.seated;
      stopped = done.stopped;
      number_is = done.number;
      restarts = done.restarts;
      cause = done.cause;
    })
