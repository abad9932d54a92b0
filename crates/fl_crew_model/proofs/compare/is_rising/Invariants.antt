use Rattle.std.proofs.Common.{length}
use Rattle.fl_crew_model.proofs.Fronts.{Above}
use Rattle.fl_crew_model.specs.Compared.{Rise, decisions_of}
use Rattle.fl_crew_model.proofs.compare.is_rising.Given as goal

abbrev pub invariant-loop-deed : goal.invariant-loop-deed
invariant-loop-deed l = record {
  back : Above l.last (decisions_of l.worker l.rest) → Rise (decisions_of l.worker l.deeds);
  front : Rise (decisions_of l.worker l.deeds) → Above l.last (decisions_of l.worker l.rest);
}

abbrev pub decreases-loop-deed : goal.decreases-loop-deed
decreases-loop-deed l = length l.rest
