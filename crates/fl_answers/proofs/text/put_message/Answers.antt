use Rattle.fl_sink.specs.laws.Passing.{puts_then, puts_stop}
use Rattle.fl_answers.proofs.text.put_message.Goals as goal

pub returns-in_err-put_caps-clause-puts : goal.returns-in_err-put_caps-clause-puts
returns-in_err-put_caps-clause-puts g c = puts_stop _ _ c.in_err-put_caps.ensures.puts.is c.from_residual.ensures.0

pub returns-clause-puts : goal.returns-clause-puts
returns-clause-puts g c = rw (← c.as_slice.ensures) (puts_then c.in_ok-put_caps.ensures.puts.is c.put_bytes.ensures.puts)
