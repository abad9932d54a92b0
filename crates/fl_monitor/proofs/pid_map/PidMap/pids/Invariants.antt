use Rattle.std.proofs.Common.{◌≡◌, take}
use Rattle.fl_monitor.proofs.Keys.{keys}
use Rattle.fl_monitor.proofs.pid_map.PidMap.pids.Given as goal

-- the pids of the slots so far that have a value
abbrev pub invariant-loop-slot : goal.invariant-loop-slot
invariant-loop-slot g l = l.pids.items ≡ keys (take l.slot-index l.slot-items)
