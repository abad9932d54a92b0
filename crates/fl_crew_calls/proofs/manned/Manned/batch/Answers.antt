use Rattle.std.proofs.Common.{subst}
use Rattle.std.specs.Prelude.{IfOk}
use Rattle.fl_crew_calls.specs.Batches.{IsServedBy}
use Rattle.fl_crew_calls.proofs.Batching.{if_served}
use Rattle.fl_crew_calls.proofs.manned.Manned.batch.Goals as goal

pub returns-clause-ok : goal.returns-clause-ok
returns-clause-ok g c =
    subst (λ s. IfOk c.batch.result (λ es. IsServedBy g.K.Keeper.custody s c.batch.new.self
    c.args.jobs.items c.args.packets.items es.items)) c.self.view_is
    (if_served g.K.Keeper.custody c.self.inside.crew c.batch.new.self c.args.jobs.items
    c.args.packets.items (λ es. es.items) c.batch.result c.batch.ensures.still
    c.batch.ensures.count c.batch.ensures.procs c.batch.ensures.serves c.batch.ensures.broken)
