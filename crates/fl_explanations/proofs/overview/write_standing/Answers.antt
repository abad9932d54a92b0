use Rattle.fl_sink.specs.laws.Passing.{puts_then, puts_stop}
use Rattle.fl_explanations.proofs.overview.write_standing.Goals as goal

pub returns-in_err-put_pid-clause-puts : goal.returns-in_err-put_pid-clause-puts
returns-in_err-put_pid-clause-puts g c =
    puts_stop _ _ c.in_err-put_pid.ensures.puts.is c.from_residual.ensures.0

pub returns-in_err-put_labels-clause-puts : goal.returns-in_err-put_labels-clause-puts
returns-in_err-put_labels-clause-puts g c =
    puts_then c.in_ok-put_pid.ensures.puts.is
    (puts_stop _ _ c.in_err-put_labels.ensures.puts.is c.from_residual-in_err-put_labels.ensures.0)

pub returns-clause-puts : goal.returns-clause-puts
returns-clause-puts g c =
    puts_then c.in_ok-put_pid.ensures.puts.is
    (puts_then c.in_ok-put_labels.ensures.puts.is c.put_counts.ensures.puts)
