use Rattle.fl_sink.specs.laws.Passing.{puts_then, puts_stop}
use Rattle.fl_machine.proofs.answers.put_packets.Goals as goal

pub returns-in_err-write_count-clause-puts : goal.returns-in_err-write_count-clause-puts
returns-in_err-write_count-clause-puts g c =
    puts_stop _ _ c.in_err-write_count.ensures.puts.is c.from_residual.ensures.0

pub returns-clause-puts : goal.returns-clause-puts
returns-clause-puts g c =
    puts_then c.in_ok-write_count.ensures.puts.is c.put_lines.ensures.puts
