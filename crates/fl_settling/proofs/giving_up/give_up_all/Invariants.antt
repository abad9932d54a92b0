use Rattle.std.proofs.Common.{◌≡◌}
use Rattle.fl_settling.proofs.Cutting.{given_up_to}
use Rattle.fl_settling.proofs.giving_up.give_up_all.Given as goal

abbrev pub invariant-loop-entry : goal.invariant-loop-entry
invariant-loop-entry l = l.entries ≡ given_up_to l.failed l.worker l.entry-index l.fn.entries
