use Rattle.std.proofs.Common.{◌≡◌, ◌<◌, ◌≤◌, ◌+◌, arith}
use Rattle.fl_sink.specs.laws.Passing.{passes_then, puts_then, puts_stop}
use Rattle.fl_replies.proofs.Numbers.{spaced_more, spaced_at, spaced_all}
use Rattle.fl_replies.proofs.text.put_numbers.Goals as goal

pub loop-offset-preserved : goal.loop-offset-preserved
loop-offset-preserved g c =
    let below : c.loop-offset.offset < c.args.count = omega arith in
    let same : c.from.result + c.from-in-loop-offset.result ≡ c.args.first + c.loop-offset.offset = omega (arith, c.from.ensures, c.from-in-loop-offset.ensures) in
    rw (spaced_more c.args.first c.args.count c.loop-offset.offset below, ← same)
    (passes_then _ _ _ c.loop-offset.invariant c.in_ok-put_number.ensures.puts.is)

pub returns-in_err-put_number-clause-puts : goal.returns-in_err-put_number-clause-puts
returns-in_err-put_number-clause-puts g c =
    let below : c.loop-offset.offset < c.args.count = omega arith in
    let same : c.from.result + c.from-in-loop-offset.result ≡ c.args.first + c.loop-offset.offset = omega (arith, c.from.ensures, c.from-in-loop-offset.ensures) in
    rw (spaced_at c.args.first c.args.count c.loop-offset.offset below, ← same)
    (puts_then c.loop-offset.invariant (puts_stop _ _ c.in_err-put_number.ensures.puts.is c.from_residual.ensures.0))

pub returns-clause-puts : goal.returns-clause-puts
returns-clause-puts g c =
    let all : c.args.count ≤ c.loop-offset.offset = omega arith in
    rw (← spaced_all c.args.first c.args.count c.loop-offset.offset all) (record { is = c.loop-offset.invariant })
