use Rattle.std.proofs.Common.{◌≡◌, ◌++◌, ◌∙◌, [], refl, sym, ap, arith, rules, length, length-append}
use Rattle.hex.specs.Hex.{encode_lower}
use Rattle.fl_sink.specs.laws.Passing.{passes_then, puts_then, puts_stop}
use Rattle.fl_answers.proofs.Digits.{encode_append, none_passes, some_more, split_whole}
use Rattle.fl_answers.proofs.text.put_digits.Goals as goal

pub loop-few-init : goal.loop-few-init
loop-few-init g c = record { done = []; split = refl; passes = none_passes _ _ }

pub returns-in_err-put_few-clause-puts : goal.returns-in_err-put_few-clause-puts
returns-in_err-put_few-clause-puts g c =
    let few = c.in-Some.few.now in
    let more = c.in-Some.more.now in
    let cut : c.loop-few.rest.now ≡ few ++ more = split_whole c.in-Some.ensures.cases in
    rw (c.loop-few.invariant.split, cut, encode_append c.loop-few.invariant.done (few ++ more), encode_append few more)
    (puts_then c.loop-few.invariant.passes (puts_stop _ _ c.in_err-put_few.ensures.puts.is c.from_residual.ensures.0))

pub loop-few-smaller : goal.loop-few-smaller
loop-few-smaller g c = search rules

pub loop-few-preserved : goal.loop-few-preserved
loop-few-preserved g c =
    let few = c.in-Some.few.now in
    let more = c.in-Some.more.now in
    let cut : c.loop-few.rest.now ≡ few ++ more = split_whole c.in-Some.ensures.cases in
    let done = c.loop-few.invariant.done in
    record {
      done = done ++ few;
      split = some_more _ done _ few more c.loop-few.invariant.split cut;
      passes = rw (encode_append done few) (passes_then _ _ _ c.loop-few.invariant.passes c.in_ok-put_few.ensures.puts.is);
    }

pub returns-clause-puts : goal.returns-clause-puts
returns-clause-puts g c =
    rw (c.loop-few.invariant.split, encode_append c.loop-few.invariant.done c.loop-few.rest.now)
    (puts_then c.loop-few.invariant.passes c.put_few-2.ensures.puts)
