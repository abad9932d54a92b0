use Rattle.std.proofs.lemmas.Map.Iter.{rest_all, rest_more}
use Rattle.std.specs.Map.Iter.{deref_pair}
use Rattle.std.proofs.Common.{rules}
use Rattle.fl_joining.proofs.Found.{least_end, least_start, least_step}
use Rattle.fl_crew_calls.specs.parts.Places.{StraysThere}
use Rattle.fl_crew_calls.proofs.joining.least_stray_with.Goals as goal

pub loop-other-preserved : goal.loop-other-preserved
loop-other-preserved g c =
    least_step (StraysThere c.args.number c.args.saved.now) c.args.all.now.entries c.loop-other.other-iterator c.next.new.self (deref_pair (c.in-Some.other, c.in-Some.place))
    c.loop-other.least _ c.lesser-least.result (rest_more deref_pair _ _ _ _ c.in-Some.is c.next.ensures.steps) c.lesser-least.ensures.value
    c.loop-other.invariant c.stray_in.ensures

pub returns : goal.returns
returns g c =
    least_end (StraysThere c.args.number c.args.saved.now) c.args.all.now.entries c.loop-other.other-iterator c.loop-other.least
    (rest_all deref_pair _ _ _ c.in-None.is c.next.ensures.steps) c.loop-other.invariant

pub loop-other-init : goal.loop-other-init
loop-other-init g c = least_start (StraysThere c.args.number c.args.saved.now) c.args.all.now.entries _ (search rules)
