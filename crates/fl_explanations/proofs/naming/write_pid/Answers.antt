use Rattle.std.proofs.Common.{codes}
use Rattle.std.proofs.lemmas.List.{append_assoc}
use Rattle.fl_labels.specs.Text.{pid_text}
use Rattle.fl_sink.specs.laws.Passing.{puts_then, puts_stop}
use Rattle.fl_explanations.proofs.naming.write_pid.Goals as goal

pub returns-in_err-put_pid-clause-puts : goal.returns-in_err-put_pid-clause-puts
returns-in_err-put_pid-clause-puts g c =
    rw (← append_assoc (codes "process ") (pid_text c.args.pid) (codes "\n"))
    (puts_stop _ _ c.in_err-put_pid.ensures.puts.is c.from_residual.ensures.0)

pub returns-clause-puts : goal.returns-clause-puts
returns-clause-puts g c =
    rw (← append_assoc (codes "process ") (pid_text c.args.pid) (codes "\n"))
    (puts_then c.in_ok-put_pid.ensures.puts.is c.put.ensures.puts)
