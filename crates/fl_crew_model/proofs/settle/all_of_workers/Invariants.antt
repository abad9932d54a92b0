use Rattle.std.proofs.Common.{length}
use Rattle.fl_crew_model.specs.Crews.{AllOfWorkers}
use Rattle.fl_crew_model.proofs.settle.all_of_workers.Given as goal

abbrev pub invariant-loop-deed : goal.invariant-loop-deed
invariant-loop-deed l = record {
  back : AllOfWorkers l.workers l.rest → AllOfWorkers l.workers l.deeds;
  forth : AllOfWorkers l.workers l.deeds → AllOfWorkers l.workers l.rest;
}

abbrev pub decreases-loop-deed : goal.decreases-loop-deed
decreases-loop-deed l = length l.rest
