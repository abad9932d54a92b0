use Rattle.std.specs.Prelude.{take}
use Rattle.fl_closure.specs.parts.Closed.{AreTransitive, AreMirrored, ClosesWith}
use Rattle.fl_closure.specs.parts.Noted.{GainsBoth}
use Rattle.fl_closure.proofs.closed.ClosedRows.give_all.Given as goal

abbrev pub invariant-loop-op : goal.invariant-loop-op
invariant-loop-op l = record {
  transitive : AreTransitive l.self.reached;
  mirrored : AreMirrored l.self;
  closes : ClosesWith l.initial.self.reached (take l.op-index l.ops) l.self.reached;
  gains : GainsBoth l.initial.self l.notes l.self;
}
