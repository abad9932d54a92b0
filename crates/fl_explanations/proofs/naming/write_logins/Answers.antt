use Rattle.std.proofs.Common.{◌<◌, arith, length}
use Rattle.fl_sink.specs.laws.Passing.{passes_then, puts_then, puts_stop}
use Rattle.fl_sink.specs.laws.Pieces.{flat_map_more, flat_map_at}
use Rattle.fl_explanations.specs.Lines.{login_line}
use Rattle.fl_explanations.proofs.naming.write_logins.Goals as goal

pub loop-login-preserved : goal.loop-login-preserved
loop-login-preserved g c =
    let inside : c.loop-login.login-index < length c.args.logins.now = omega arith in
    rw (
      flat_map_more login_line c.args.logins.now c.loop-login.login-index c.login-item.result inside,
      ← c.login-item.is,
    )
    (passes_then _ _ _ c.loop-login.invariant c.in_ok-write_login.ensures.puts.is)

pub returns-in_err-write_login-clause-puts : goal.returns-in_err-write_login-clause-puts
returns-in_err-write_login-clause-puts g c =
    let inside : c.loop-login.login-index < length c.args.logins.now = omega arith in
    rw (
      flat_map_at login_line c.args.logins.now c.loop-login.login-index c.login-item.result inside,
      ← c.login-item.is,
    )
    (puts_then c.loop-login.invariant
    (puts_stop _ _ c.in_err-write_login.ensures.puts.is c.from_residual.ensures.0))
