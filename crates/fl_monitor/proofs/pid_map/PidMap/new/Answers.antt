use Rattle.std.proofs.Common.{sym, subst}
use Rattle.fl_monitor.specs.parts.Slots.{IsRising}
use Rattle.fl_monitor.proofs.SlotLemmas.{rising_none}
use Rattle.fl_monitor.proofs.pid_map.PidMap.new.Goals as goal

pub invariant_of-result : goal.invariant_of-result
invariant_of-result g c = subst IsRising (sym c.new.ensures.items) rising_none
