use Rattle.std.proofs.Common.{ap, length}
use Rattle.fl_sink.specs.laws.Passing.{puts_then, puts_stop}
use Rattle.fl_machine.proofs.greeting.put_greeting.Goals as goal

pub returns-in_err-put_number-clause-puts : goal.returns-in_err-put_number-clause-puts
returns-in_err-put_number-clause-puts g c =
    rw (← c.number.ensures.number)
    (puts_stop _ _ c.in_err-put_number.ensures.puts.is c.from_residual.ensures.0)

pub returns-in_err-put_number-2-clause-puts : goal.returns-in_err-put_number-2-clause-puts
returns-in_err-put_number-2-clause-puts g c =
    rw (← c.number.ensures.number, ← c.boot.ensures.boot)
    (puts_then c.in_ok-put_number.ensures.puts.is
    (puts_stop _ _ c.in_err-put_number-2.ensures.puts.is
    c.from_residual-in_err-put_number-2.ensures.0))

pub returns-clause-puts : goal.returns-clause-puts
returns-clause-puts g c =
    rw (← c.number.ensures.number, ← c.boot.ensures.boot, ← ap length c.published.ensures)
    (puts_then c.in_ok-put_number.ensures.puts.is
    (puts_then c.in_ok-put_number-2.ensures.puts.is c.write_count.ensures.puts))
