use Rattle.std.proofs.Common.{◌∙◌, ap}
use Rattle.std.specs.VecDeque.Iter.{deque_iter_rest}
use Rattle.std.proofs.lemmas.List.{nil_from_length}
use Rattle.fl_explanations.specs.Lines.{waits_line}
use Rattle.fl_explanations.proofs.Passed.{passed_all, passed_more, passed_none, passed_stop}
use Rattle.fl_explanations.proofs.shown.write_inbox.Goals as goal

pub loop-letter-init : goal.loop-letter-init
loop-letter-init g c =
    passed_none waits_line _ _
    (ap deque_iter_rest c.into_iter-letter-iterator.ensures.into_iter_gives
    ∙ c.iter-letter-items.ensures.rest) _ _

pub loop-letter-preserved : goal.loop-letter-preserved
loop-letter-preserved g c =
    passed_more waits_line _ c.loop-letter.invariant _ _
    (rw c.in-Some.is at c.next.ensures.steps) _ _
    (rw c.deref.ensures at c.in_ok-write_waiting.ensures.puts.is)

pub returns-in_err-write_waiting-clause-puts : goal.returns-in_err-write_waiting-clause-puts
returns-in_err-write_waiting-clause-puts g c =
    passed_stop waits_line _ c.loop-letter.invariant _ _
    (rw c.in-Some.is at c.next.ensures.steps) _
    (rw c.deref.ensures at c.in_err-write_waiting.ensures.puts.is)
    c.from_residual.ensures.0

pub returns-clause-puts : goal.returns-clause-puts
returns-clause-puts g c = record {
  is = passed_all waits_line _ c.loop-letter.invariant
      (nil_from_length _ (let none = rw c.in-None.is at c.next.ensures.steps in none.0));
}
