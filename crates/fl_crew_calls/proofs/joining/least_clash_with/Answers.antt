use Rattle.std.proofs.lemmas.Map.Iter.{rest_all, rest_more}
use Rattle.std.specs.Map.Iter.{deref_pair}
use Rattle.std.proofs.Common.{rules}
use Rattle.fl_joining.proofs.Found.{least_end, least_start, least_step}
use Rattle.fl_crew_calls.specs.parts.Places.{ClashesThere}
use Rattle.fl_crew_calls.proofs.joining.least_clash_with.Goals as goal

pub loop-place-preserved : goal.loop-place-preserved
loop-place-preserved g c =
    least_step (ClashesThere c.args.saved.now) c.args.all.now.entries c.loop-place.place-iterator c.next.new.self (deref_pair (c.in-Some.field-0-0, c.in-Some.place))
    c.loop-place.least _ c.lesser-least.result (rest_more deref_pair _ _ _ _ c.in-Some.is c.next.ensures.steps) c.lesser-least.ensures.value
    c.loop-place.invariant c.clash_in.ensures

pub returns-clause-least : goal.returns-clause-least
returns-clause-least g c =
    least_end (ClashesThere c.args.saved.now) c.args.all.now.entries c.loop-place.place-iterator c.loop-place.least
    (rest_all deref_pair _ _ _ c.in-None.is c.next.ensures.steps) c.loop-place.invariant

pub loop-place-init : goal.loop-place-init
loop-place-init g c = least_start (ClashesThere c.args.saved.now) c.args.all.now.entries _ (search rules)
