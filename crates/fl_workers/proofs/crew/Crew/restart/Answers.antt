use Rattle.fl_workers.specs.Crews.{crew_of}
use Rattle.fl_workers.proofs.Opened.{idle_after, passes_restart}
use Rattle.fl_workers.proofs.Standing.{told_stands}
use Rattle.fl_workers.proofs.crew.Crew.restart.Goals as goal

pub seats_for-seats-requires-clause-idle : goal.seats_for-seats-requires-clause-idle
seats_for-seats-requires-clause-idle g c =
    idle_after g.K.Keeper.custody c.into_parts-gate.result.1 c.restart-node.result.0 c.args.keeps
    c.restart-node.result.1 c.restart-node.ensures.restarts

pub returns-clause-restarts : goal.returns-clause-restarts
returns-clause-restarts g c =
    passes_restart g.K.Keeper.custody c.args.self.node c.into_parts-gate.result.1
    c.restart-node.result.0 (crew_of c.seats_for-seats.result.0) c.args.keeps
    c.restart-node.result.1 c.seats_for-seats.result.1 c.into_parts-gate.ensures.node
    c.seats_for-seats.ensures.node c.seats_for-seats.ensures.told c.restart-node.ensures.restarts

pub invariant_of-result : goal.invariant_of-result
invariant_of-result g c = (
  c.seats_for-seats.ensures.sized,
  told_stands g.K.Keeper.custody (crew_of c.seats_for-seats.result.0) c.into_parts-gate.result.2
      c.seats_for-seats.result.1 c.seats_for-seats.ensures.seated
      c.seats_for-seats.ensures.stopped,
)
