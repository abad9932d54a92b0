use Rattle.std.proofs.Common.{◌≡◌, length}
use Rattle.fl_crew_threads.proofs.lines.lines_for.Given as goal

abbrev pub invariant-loop : goal.invariant-loop
invariant-loop l = length l.ends.items ≡ l.counter
