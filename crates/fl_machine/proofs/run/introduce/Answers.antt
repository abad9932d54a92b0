use Rattle.fl_machine.proofs.Sinks.{writes_kept, writes_stop}
use Rattle.fl_machine.proofs.run.introduce.Goals as goal

pub returns-in_err-greet-clause-writes : goal.returns-in_err-greet-clause-writes
returns-in_err-greet-clause-writes g c =
    rw (← c.node.ensures)
    (writes_stop c.in_err-greet.ensures.writes.is c.from_residual.ensures.0)

pub returns-in-Ok-clause-writes : goal.returns-in-Ok-clause-writes
returns-in-Ok-clause-writes g c =
    rw (← c.node.ensures)
    (writes_kept _ _ _ _ _ c.in_ok-greet.ensures.writes.is c.send.ensures.bytes)

pub returns-in-Err-clause-writes : goal.returns-in-Err-clause-writes
returns-in-Err-clause-writes g c =
    rw (← c.node.ensures)
    (writes_kept _ _ _ _ _ c.in_ok-greet.ensures.writes.is c.send.ensures.bytes)
