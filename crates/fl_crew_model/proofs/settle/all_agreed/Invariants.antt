use Rattle.std.proofs.Common.{◌≡◌, ◌+◌, length}
use Rattle.fl_crew_model.specs.Settled.{AllAgree}
use Rattle.fl_crew_model.proofs.settle.all_agreed.Given as goal

abbrev pub invariant-loop-queue : goal.invariant-loop-queue
invariant-loop-queue l = record {
  count : l.worker + length l.rest ≡ length l.queues + 1;
  back : AllAgree l.first l.worker l.deeds l.rest → AllAgree l.first 1 l.deeds l.queues;
  forth : AllAgree l.first 1 l.deeds l.queues → AllAgree l.first l.worker l.deeds l.rest;
}

abbrev pub decreases-loop-queue : goal.decreases-loop-queue
decreases-loop-queue l = length l.rest
