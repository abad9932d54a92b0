use Rattle.std.proofs.Common.{◌≡◌, ◌≤◌, ◌+◌, ◌++◌, ℕ, length, map, vec_len, vec_capacity}
use Rattle.fl_crew_threads.specs.Receiving.{place_of, place_at, Receives}
use Rattle.fl_crew_threads.specs.Registers.{Registers}
use Rattle.fl_crew_threads.proofs.ruling.take_all.Given as goal

abbrev pub invariant-loop-placed : goal.invariant-loop-placed
invariant-loop-placed g l = record {
  rules : (workers : ℕ) → Registers g.K.Keeper.custody workers l.fn.registrar l.registrar;
  places : map place_of l.taken.items ≡ map place_of l.fn.taken.items ++ map place_at l.yielded;
  received : Receives l.yielded l.fn.taken.items l.taken.items l.fn.registrar l.registrar;
  room : vec_len l.taken + length l.placed-iterator.rest.items ≤ vec_capacity l.taken;
}
