use Rattle.std.proofs.Common.{◌≡◌, ◌+◌, length}
use Rattle.fl_crew_model.proofs.Fronts.{GoesBack, GoesForth}
use Rattle.fl_crew_model.specs.Compared.{decisions_of}
use Rattle.fl_crew_model.proofs.compare.front.Given as goal

abbrev pub invariant-loop-entry : goal.invariant-loop-entry
invariant-loop-entry l = record {
  count : l.good + length l.rest ≡ length l.entries;
  back : GoesBack l.need (decisions_of l.worker l.left) l.rest l.fn.need
      (decisions_of l.worker l.deeds) l.entries l.good;
  forth : GoesForth l.need (decisions_of l.worker l.left) l.rest l.fn.need
      (decisions_of l.worker l.deeds) l.entries l.good;
}

abbrev pub decreases-loop-entry : goal.decreases-loop-entry
decreases-loop-entry l = length l.rest
