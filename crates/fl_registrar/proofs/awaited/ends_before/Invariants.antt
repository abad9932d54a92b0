use Rattle.std.proofs.Common.{◌≡◌, length}
use Rattle.fl_crew_model.specs.Compared.{decisions_of}
use Rattle.fl_registrar.proofs.awaited.ends_before.Given as goal

abbrev pub invariant-loop-deed : goal.invariant-loop-deed
invariant-loop-deed l = decisions_of l.worker l.rest ≡ decisions_of l.worker l.deeds

abbrev pub decreases-loop-deed : goal.decreases-loop-deed
decreases-loop-deed l = length l.rest
