use Rattle.fl_sink.specs.laws.Passing.{puts_then, puts_stop}
use Rattle.fl_machine.proofs.answers.put_why.Goals as goal

pub returns-in_err-write_count-clause-puts : goal.returns-in_err-write_count-clause-puts
returns-in_err-write_count-clause-puts g c =
    rw (← c.count_of.ensures)
    (puts_stop _ _ c.in_err-write_count.ensures.puts.is c.from_residual.ensures.0)

pub returns-clause-puts : goal.returns-clause-puts
returns-clause-puts g c =
    rw (← c.count_of.ensures)
    (puts_then c.in_ok-write_count.ensures.puts.is c.write_why.ensures.puts)
