use Rattle.std.proofs.Common.{◌≡◌, map}
use Rattle.fl_workers.specs.Plans.{place_in, packet_in, packet_at}
use Rattle.fl_crew_threads.specs.Receiving.{place_at}
use Rattle.fl_workers.proofs.planning.placed_all.Given as goal

abbrev pub invariant-loop-dealt : goal.invariant-loop-dealt
invariant-loop-dealt l = record {
  places : map place_at l.placed.items ≡ map place_in l.yielded;
  packets : map packet_at l.placed.items ≡ map packet_in l.yielded;
}
