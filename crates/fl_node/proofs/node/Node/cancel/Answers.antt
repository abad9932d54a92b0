use Rattle.std.proofs.lemmas.Result.{err_from_is_err_and}
use Rattle.fl_system.specs.Publishes.{Cancels}
use Rattle.fl_node.proofs.node.Node.cancel.Goals as goal

pub returns-in_err-batch-clause-cancels : goal.returns-in_err-batch-clause-cancels
returns-in_err-batch-clause-cancels g c =
    let p = err_from_is_err_and c.from_residual.result c.from_residual.ensures.1 in
    rw (p.1, p.2, ← c.self.view_is) (Cancels.none c.in_err-batch.ensures.err)

pub returns-clause-cancels : goal.returns-clause-cancels
returns-clause-cancels g c = rw (c.release.ensures.procs, c.release.ensures.benches, ← c.self.view_is) (Cancels.given_up c.in_ok-batch.ensures.ok)
