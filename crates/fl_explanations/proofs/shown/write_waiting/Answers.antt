use Rattle.fl_sink.specs.laws.Passing.{puts_then, puts_stop}
use Rattle.fl_explanations.proofs.shown.write_waiting.Goals as goal

pub returns-in_err-put_pid-clause-puts : goal.returns-in_err-put_pid-clause-puts
returns-in_err-put_pid-clause-puts g c =
    puts_stop _ _ c.in_err-put_pid.ensures.puts.is c.from_residual.ensures.0

pub returns-in_err-put-clause-puts : goal.returns-in_err-put-clause-puts
returns-in_err-put-clause-puts g c =
    puts_then c.in_ok-put_pid.ensures.puts.is
    (puts_stop _ _ c.in_err-put.ensures.puts.is c.from_residual-in_err-put.ensures.0)

pub returns-in_err-put_caps-clause-puts : goal.returns-in_err-put_caps-clause-puts
returns-in_err-put_caps-clause-puts g c =
    rw (← c.deref-message.ensures)
    (puts_then c.in_ok-put_pid.ensures.puts.is
    (puts_then c.in_ok-put.ensures.puts.is
    (puts_stop _ _ c.in_err-put_caps.ensures.puts.is c.from_residual-in_err-put_caps.ensures.0)))

pub returns-clause-puts : goal.returns-clause-puts
returns-clause-puts g c =
    rw (← c.deref-message.ensures, ← c.as_slice.ensures)
    (puts_then c.in_ok-put_pid.ensures.puts.is
    (puts_then c.in_ok-put.ensures.puts.is
    (puts_then c.in_ok-put_caps.ensures.puts.is c.write_count.ensures.puts)))
