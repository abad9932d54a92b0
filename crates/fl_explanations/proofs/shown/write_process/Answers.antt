use Rattle.std.proofs.Common.{◌∙◌, ◌+◌, ap, length}
use Rattle.fl_sink.specs.laws.Passing.{puts_then, puts_stop}
use Rattle.fl_explanations.proofs.Processes.{process_text}
use Rattle.fl_explanations.proofs.shown.write_process.Goals as goal

pub returns-in_err-write_head-clause-puts : goal.returns-in_err-write_head-clause-puts
returns-in_err-write_head-clause-puts g c =
    let p = c.args.process.now in
    let ends = c.len-ends.ensures.value ∙ ap length c.iter.ensures in
    let waits = c.len-waits.ensures.value ∙ ap length c.iter-2.ensures.rest in
    rw (process_text p (3 + (c.len-ends.result + c.len-waits.result))
    (λ i. 3 + (ends i + waits i)))
    (puts_stop _ _ c.in_err-write_head.ensures.puts.is c.from_residual.ensures.0)

pub returns-in_err-write_owner-clause-puts : goal.returns-in_err-write_owner-clause-puts
returns-in_err-write_owner-clause-puts g c =
    let p = c.args.process.now in
    let ends = c.len-ends.ensures.value ∙ ap length c.iter.ensures in
    let waits = c.len-waits.ensures.value ∙ ap length c.iter-2.ensures.rest in
    rw (process_text p (3 + (c.len-ends.result + c.len-waits.result))
    (λ i. 3 + (ends i + waits i)))
    (puts_then c.in_ok-write_head.ensures.puts.is
    (puts_stop _ _ c.in_err-write_owner.ensures.puts.is c.from_residual-in_err-write_owner.ensures.0))

pub returns-in_err-write_ends-clause-puts : goal.returns-in_err-write_ends-clause-puts
returns-in_err-write_ends-clause-puts g c =
    let p = c.args.process.now in
    let ends = c.len-ends.ensures.value ∙ ap length c.iter.ensures in
    let waits = c.len-waits.ensures.value ∙ ap length c.iter-2.ensures.rest in
    rw (process_text p (3 + (c.len-ends.result + c.len-waits.result))
    (λ i. 3 + (ends i + waits i)))
    (puts_then c.in_ok-write_head.ensures.puts.is
    (puts_then c.in_ok-write_owner.ensures.puts.is
    (puts_stop _ _ c.in_err-write_ends.ensures.puts.is c.from_residual-in_err-write_ends.ensures.0)))

pub returns-clause-puts : goal.returns-clause-puts
returns-clause-puts g c =
    let p = c.args.process.now in
    let ends = c.len-ends.ensures.value ∙ ap length c.iter.ensures in
    let waits = c.len-waits.ensures.value ∙ ap length c.iter-2.ensures.rest in
    rw (process_text p (3 + (c.len-ends.result + c.len-waits.result))
    (λ i. 3 + (ends i + waits i)))
    (puts_then c.in_ok-write_head.ensures.puts.is
    (puts_then c.in_ok-write_owner.ensures.puts.is
    (puts_then c.in_ok-write_ends.ensures.puts.is
    (c.write_inbox.ensures.puts))))
