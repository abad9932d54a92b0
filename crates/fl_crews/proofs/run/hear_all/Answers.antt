use Rattle.std.proofs.Common.{◌≡◌, ◌+◌, ◌∙◌, inr, sym, ap, refl, true, false, arith, rules}
use Rattle.std.proofs.lemmas.Result.{err_from_is_err_and, on_err_weaker, on_ok_weaker}
use Rattle.fl_sink.specs.laws.Passing.{on_err_always, passes_then}
use Rattle.fl_stream.specs.laws.Driving.{stops_at_once, driven_none, driven_due, driven_more, driven_cut, driven_stops, driven_served, driven_cause, driven_mid_line, driven_all, pass_on}
use Rattle.fl_crews.proofs.BatchLemmas.{stops_before, stops_in_batch, batch_cut, ends_batch, handed_short, cause_of_two, batch_is_status, grows_at_end, grows_cut, grows_none}
use Rattle.fl_crews.proofs.run.hear_all.Goals as goal

pub returns-in_err-intake-clause-err : goal.returns-in_err-intake-clause-err
returns-in_err-intake-clause-err g c = on_err_always _ (stops_before _ _ _ _ _ _ (stops_at_once _ _ _ _))

pub lines-init : goal.lines-init
lines-init g c =
    let fresh : g.C.Conversation.hearings c.args.input.now ≡ 0 = c.requires.fresh in
    record {
      driven = driven_none _ _ _ _ c.in_ok-intake.ensures.ok c.new-tally.ensures refl;
      asked = rw c.in_ok-intake.ensures.ok (omega (arith, fresh));
      few = rw (c.in_ok-intake.ensures.ok, c.new-tally.ensures) (omega arith);
    }

pub next-requires-clause-due : goal.next-requires-clause-due
next-requires-clause-due g c =
    driven_due g.C.Conversation.may_hear c.lines.invariant.driven c.requires.unheard (λ heard said answered. c.requires.due heard said _ answered)

pub returns-in_err-next-clause-served : goal.returns-in_err-next-clause-served
returns-in_err-next-clause-served g c =
    let fault = err_from_is_err_and c.from_residual-in_err-next.result c.from_residual-in_err-next.ensures.1 in
    rw fault.1 (λ is_read. driven_served c.lines.invariant.driven c.in_err-next.ensures.goes_on (c.in_err-next.ensures.no_more (sym fault.2 ∙ is_read)) (c.in_err-next.ensures.written (sym fault.2 ∙ is_read)))

pub returns-in_err-next-clause-cause : goal.returns-in_err-next-clause-cause
returns-in_err-next-clause-cause g c =
    let fault = err_from_is_err_and c.from_residual-in_err-next.result c.from_residual-in_err-next.ensures.1 in
    rw fault.1 (λ is_read. cause_of_two (driven_cause c.lines.invariant.driven c.in_err-next.ensures.goes_on (c.in_err-next.ensures.cause (sym fault.2 ∙ is_read))))

pub returns-in_err-next-clause-memory_cause : goal.returns-in_err-next-clause-memory_cause
returns-in_err-next-clause-memory_cause g c =
    let fault = err_from_is_err_and c.from_residual-in_err-next.result c.from_residual-in_err-next.ensures.1 in
    rw fault.1 (λ is_memory. inr (driven_mid_line c.lines.invariant.driven c.in_err-next.ensures.goes_on (c.in_err-next.ensures.memory_cause (sym fault.2 ∙ is_memory))))

pub returns-in_err-next-clause-err : goal.returns-in_err-next-clause-err
returns-in_err-next-clause-err g c = on_err_always _ (stops_before _ _ _ _ _ _ (driven_stops c.lines.invariant.driven c.in_err-next.ensures.err))

pub returns-in_err-status-clause-err : goal.returns-in_err-status-clause-err
returns-in_err-status-clause-err g c =
    let some : c.in_ok-next.field-0 ≡ true = search rules in
    on_err_always _ (stops_before _ _ _ _ _ _ (driven_cut c.lines.invariant.driven (c.in_ok-next.ensures.some some) c.in_ok-next.ensures.passed (rw c.line.ensures at c.in_err-status.ensures.err)))

pub lines-preserved : goal.lines-preserved
lines-preserved g c =
    let some : c.in_ok-next.field-0 ≡ true = search rules in
    let less = c.in_ok-next.ensures.less some in
    let number : c.count.new.self.number ≡ c.lines.tally.number + 1 = ap (λ x. x.number) c.count.ensures in
    record {
      driven = rw c.count.ensures (driven_more c.lines.invariant.driven (c.in_ok-next.ensures.some some) c.in_ok-next.ensures.passed (rw c.line.ensures at c.in_ok-status.ensures.ok));
      asked = search rules;
      few = omega (arith, c.lines.invariant.few, less, number);
    }

pub returns-in_err-status-2-clause-err : goal.returns-in_err-status-2-clause-err
returns-in_err-status-2-clause-err g c =
    let none : c.in_ok-next.field-0 ≡ false = search rules in
    let driven = c.lines.invariant.driven in
    let all = driven_all driven (λ same. ap g.C.Conversation.remaining same) (c.in_ok-next.ensures.none none) in
    on_err_always _ (stops_in_batch all (pass_on _ driven.passed c.in_ok-next.ensures.passed) c.in_err-status-2.ensures.err)

pub returns-clause-ok : goal.returns-clause-ok
returns-clause-ok g c =
    let none : c.in_ok-next.field-0 ≡ false = search rules in
    let driven = c.lines.invariant.driven in
    let all = driven_all driven (λ same. ap g.C.Conversation.remaining same) (c.in_ok-next.ensures.none none) in
    ends_batch _ c.end.result all (pass_on _ driven.passed c.in_ok-next.ensures.passed) c.in_ok-status-2.ensures.ok (rw c.raise.ensures at c.end.ensures.status) (rw c.raise.ensures at c.end.ensures.ok)

pub returns-clause-whole : goal.returns-clause-whole
returns-clause-whole g c =
    let none : c.in_ok-next.field-0 ≡ false = search rules in
    let all = driven_all c.lines.invariant.driven (λ same. ap g.C.Conversation.remaining same) (c.in_ok-next.ensures.none none) in
    on_ok_weaker c.end.result (λ _. all.all) c.end.ensures.ok

pub returns-clause-short : goal.returns-clause-short
returns-clause-short g c =
    let none : c.in_ok-next.field-0 ≡ false = search rules in
    let all = driven_all c.lines.invariant.driven (λ same. ap g.C.Conversation.remaining same) (c.in_ok-next.ensures.none none) in
    on_ok_weaker c.end.result (λ _. handed_short all) c.end.ensures.ok

pub returns-clause-err : goal.returns-clause-err
returns-clause-err g c =
    let none : c.in_ok-next.field-0 ≡ false = search rules in
    let driven = c.lines.invariant.driven in
    let all = driven_all driven (λ same. ap g.C.Conversation.remaining same) (c.in_ok-next.ensures.none none) in
    on_err_weaker c.end.result (λ cut. stops_in_batch all (pass_on _ driven.passed c.in_ok-next.ensures.passed) (batch_cut c.in_ok-status-2.ensures.ok cut)) (rw c.raise.ensures at c.end.ensures.err)

pub returns-in_err-intake-clause-grows : goal.returns-in_err-intake-clause-grows
returns-in_err-intake-clause-grows g c = grows_none _

pub returns-in_err-next-clause-grows : goal.returns-in_err-next-clause-grows
returns-in_err-next-clause-grows g c = grows_cut c.lines.invariant.driven.passed.passed c.in_err-next.ensures.err

pub returns-in_err-status-clause-grows : goal.returns-in_err-status-clause-grows
returns-in_err-status-clause-grows g c =
    let passed = passes_then _ _ _ c.lines.invariant.driven.passed.passed c.in_ok-next.ensures.passed in
    grows_cut passed c.in_err-status.ensures.err.cut

pub returns-in_err-status-2-clause-grows : goal.returns-in_err-status-2-clause-grows
returns-in_err-status-2-clause-grows g c =
    let passed = passes_then _ _ _ c.lines.invariant.driven.passed.passed c.in_ok-next.ensures.passed in
    grows_cut passed c.in_err-status-2.ensures.err.cut

pub returns-clause-grows : goal.returns-clause-grows
returns-clause-grows g c =
    let passed = passes_then _ _ _ c.lines.invariant.driven.passed.passed c.in_ok-next.ensures.passed in
    grows_at_end c.end.result (passes_then _ _ _ passed c.in_ok-status-2.ensures.ok.passed)
    (rw c.raise.ensures at c.end.ensures.ok) (rw c.raise.ensures at c.end.ensures.err)

pub returns-clause-status : goal.returns-clause-status
returns-clause-status g c =
    batch_is_status c.end.result (pass_on _ c.lines.invariant.driven.passed c.in_ok-next.ensures.passed)
    c.in_ok-status-2.ensures.ok (rw c.raise.ensures at c.end.ensures.status)
