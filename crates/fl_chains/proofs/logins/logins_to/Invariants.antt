use Rattle.std.specs.Prelude.{take}
use Rattle.fl_ops.specs.Registry.{Listed}
use Rattle.fl_chains.proofs.Entries.{AreEntries}
use Rattle.fl_chains.proofs.logins.logins_to.Given as goal

-- those of the operations so far
abbrev pub invariant-loop-op : goal.invariant-loop-op
invariant-loop-op l = AreEntries (Listed l.fn.target.ops.now) l.fn.target.cap
    (take l.op-index l.op-items) l.logins.items
