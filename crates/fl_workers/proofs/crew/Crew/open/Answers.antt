use Rattle.fl_workers.proofs.Opened.{idle_opened, passes_crew, seated_again}
use Rattle.fl_workers.proofs.Standing.{seated_stands}
use Rattle.fl_workers.proofs.crew.Crew.open.Goals as goal

pub seat-requires-clause-idle : goal.seat-requires-clause-idle
seat-requires-clause-idle g c = λ honest k may.
    let f = (c.in-Ok-open.ensures.ok honest).1 k may in
    idle_opened c.args.number f.0 k c.in-Ok-open.node.node f.2

pub returns-clause-opens : goal.returns-clause-opens
returns-clause-opens g c =
    passes_crew g.K.Keeper.custody c.law_weave.ensures.opened c.args.number c.args.workers
    c.args.keeper c.in-Ok-open.node c.in-Ok-seat.manned c.in-Ok-seat.ensures.seated
    c.in-Ok-open.ensures.ok

pub invariant_of-result : goal.invariant_of-result
invariant_of-result g c = (
  tt,
  seated_stands g.K.Keeper.custody c.in-Ok-seat.manned c.args.workers
      (seated_again _ c.args.workers c.in-Ok-seat.manned c.in-Ok-seat.ensures.seated),
)
