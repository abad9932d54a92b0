use Rattle.std.proofs.Common.{take}
use Rattle.fl_explanations.proofs.Holders.{AreOwners}
use Rattle.fl_explanations.proofs.who.owners.Given as goal

-- those of the processes so far
abbrev pub invariant-loop-pid : goal.invariant-loop-pid
invariant-loop-pid l =
    AreOwners l.fn.target.ops.now l.bench l.fn.target.cap (take l.pid-index l.pids) l.made.items
