use Rattle.fl_machine.proofs.Sinks.{writes_after, writes_stop}
use Rattle.fl_machine.proofs.greeting.greet.Goals as goal

pub returns-in_err-put_greeting-clause-writes : goal.returns-in_err-put_greeting-clause-writes
returns-in_err-put_greeting-clause-writes g c =
    writes_stop (rw c.new-sink.ensures at c.in_err-put_greeting.ensures.puts.is)
    c.from_residual.ensures.0

pub returns-clause-writes : goal.returns-clause-writes
returns-clause-writes g c =
    writes_after (rw c.new-sink.ensures at c.in_ok-put_greeting.ensures.puts.is)
    c.finish.ensures.writes
