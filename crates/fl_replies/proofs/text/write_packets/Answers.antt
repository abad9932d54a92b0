use Rattle.std.proofs.Common.{◌<◌, arith}
use Rattle.fl_sink.specs.laws.Passing.{puts_then, puts_stop}
use Rattle.fl_replies.proofs.Numbers.{sent_some}
use Rattle.fl_replies.proofs.text.write_packets.Goals as goal

pub returns-in_err-put-clause-puts : goal.returns-in_err-put-clause-puts
returns-in_err-put-clause-puts g c =
    let some : 0 < c.args.count = omega arith in
    rw (sent_some c.args.first c.args.count some) (puts_stop _ _ c.in_err-put.ensures.puts.is c.from_residual.ensures.0)

pub returns-in_err-put_numbers-clause-puts : goal.returns-in_err-put_numbers-clause-puts
returns-in_err-put_numbers-clause-puts g c =
    let some : 0 < c.args.count = omega arith in
    rw (sent_some c.args.first c.args.count some) (puts_then c.in_ok-put.ensures.puts.is (puts_stop _ _ c.in_err-put_numbers.ensures.puts.is c.from_residual-in_err-put_numbers.ensures.0))

pub returns-clause-puts : goal.returns-clause-puts
returns-clause-puts g c =
    let some : 0 < c.args.count = omega arith in
    rw (sent_some c.args.first c.args.count some) (puts_then c.in_ok-put.ensures.puts.is (puts_then c.in_ok-put_numbers.ensures.puts.is c.put-3.ensures.puts))
