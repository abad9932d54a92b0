use Rattle.std.proofs.Common.{subst}
use Rattle.fl_workers.specs.Crews.{crew_of}
use Rattle.fl_workers.specs.Standing.{Stands}
use Rattle.fl_workers.proofs.Standing.{batch_stands}
use Rattle.fl_workers.proofs.crew.Crew.batch.Goals as goal

pub returns-clause-serves : goal.returns-clause-serves
returns-clause-serves g c = rw (← c.self.view_is, c.in-Manned.is) c.batch.ensures.serves

pub invariant_of-self-2 : goal.invariant_of-self-2
invariant_of-self-2 g c = (
  tt,
  batch_stands g.K.Keeper.custody _ _
      (subst (λ s. Stands g.K.Keeper.custody (crew_of s)) c.in-Manned.is c.self.invariant.1)
      (λ es. es.items) _ c.batch.result c.batch.ensures.still c.batch.ensures.seats
      c.batch.ensures.err c.batch.ensures.serves,
)
