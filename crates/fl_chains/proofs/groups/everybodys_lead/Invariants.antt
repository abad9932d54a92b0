use Rattle.std.specs.Prelude.{take}
use Rattle.fl_ops.specs.Registry.{Listed}
use Rattle.fl_chains.proofs.Ways.{NoneYet, GivesWay}
use Rattle.fl_chains.proofs.groups.everybodys_lead.Given as goal

-- none so far gives what leads there
abbrev pub invariant-loop-op : goal.invariant-loop-op
invariant-loop-op l =
    NoneYet (GivesWay (Listed l.fn.target.ops.now) l.fn.target.cap) (take l.op-index l.op-items)
