use Rattle.fl_crew_calls.proofs.Places.{no_place}
use Rattle.fl_crew_calls.proofs.crews.Crews.new.Goals as goal

pub invariant_of-result : goal.invariant_of-result
invariant_of-result g c =
    (c.requires.some, c.requires.few, no_place c.new.result.entries c.new.ensures.len)
