use Rattle.std.proofs.Common.{◌∙◌}
use Rattle.std.specs.Map.Iter.{deref_pair}
use Rattle.std.proofs.lemmas.Map.Iter.{rest_more, rest_all}
use Rattle.fl_explanations.specs.Lines.{end_line}
use Rattle.fl_explanations.proofs.Passed.{passed_all, passed_more, passed_none, passed_stop}
use Rattle.fl_explanations.proofs.shown.write_ends.Goals as goal

pub loop-endpoint-init : goal.loop-endpoint-init
loop-endpoint-init g c =
    passed_none end_line _ _
    (c.into_iter-endpoint-iterator.ensures.into_iter_gives ∙ c.iter-endpoint-items.ensures) _ _

pub loop-endpoint-preserved : goal.loop-endpoint-preserved
loop-endpoint-preserved g c =
    let split = rest_more deref_pair _ _ _ (c.in-Some.endpoint, c.in-Some.opened) c.in-Some.is
    c.next.ensures.steps in
    passed_more end_line _ c.loop-endpoint.invariant _ _ split _ _
    c.in_ok-write_end.ensures.puts.is

pub returns-in_err-write_end-clause-puts : goal.returns-in_err-write_end-clause-puts
returns-in_err-write_end-clause-puts g c =
    let split = rest_more deref_pair _ _ _ (c.in-Some.endpoint, c.in-Some.opened) c.in-Some.is
    c.next.ensures.steps in
    passed_stop end_line _ c.loop-endpoint.invariant _ _ split _
    c.in_err-write_end.ensures.puts.is c.from_residual.ensures.0

pub returns-clause-puts : goal.returns-clause-puts
returns-clause-puts g c = record {
  is = passed_all end_line _ c.loop-endpoint.invariant
      (rest_all deref_pair _ _ _ c.in-None.is c.next.ensures.steps);
}
