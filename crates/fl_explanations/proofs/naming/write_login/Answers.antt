use Rattle.fl_sink.specs.laws.Passing.{puts_then, puts_stop}
use Rattle.fl_explanations.proofs.Named.{login_parts}
use Rattle.fl_explanations.proofs.naming.write_login.Goals as goal

pub returns-in_err-put_name-clause-puts : goal.returns-in_err-put_name-clause-puts
returns-in_err-put_name-clause-puts g c =
    rw (login_parts c.args.login)
    (puts_stop _ _ c.in_err-put_name.ensures.puts.is c.from_residual.ensures.0)

pub returns-in_err-put_cap-clause-puts : goal.returns-in_err-put_cap-clause-puts
returns-in_err-put_cap-clause-puts g c =
    rw (login_parts c.args.login)
    (puts_then c.in_ok-put_name.ensures.puts.is
    (puts_stop _ _ c.in_err-put_cap.ensures.puts.is c.from_residual-in_err-put_cap.ensures.0))

pub returns-clause-puts : goal.returns-clause-puts
returns-clause-puts g c =
    rw (login_parts c.args.login)
    (puts_then c.in_ok-put_name.ensures.puts.is
    (puts_then c.in_ok-put_cap.ensures.puts.is c.put.ensures.puts))
