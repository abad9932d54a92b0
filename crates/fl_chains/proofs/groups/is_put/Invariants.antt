use Rattle.std.specs.Prelude.{take}
use Rattle.fl_chains.proofs.Ways.{NoneYet, PutsOne}
use Rattle.fl_chains.proofs.groups.is_put.Given as goal

-- none so far puts it anywhere
abbrev pub invariant-loop-op : goal.invariant-loop-op
invariant-loop-op l = NoneYet (PutsOne l.fn.cap) (take l.op-index l.ops)
