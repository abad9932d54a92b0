use Rattle.std.specs.Prelude.{take}
use Rattle.fl_closure.specs.parts.Globals.{GivesAll}
use Rattle.fl_closure.specs.parts.Noted.{Gains}
use Rattle.fl_closure.proofs.globals.Globals.give_all.Given as goal

abbrev pub invariant-loop-op : goal.invariant-loop-op
invariant-loop-op l = record {
  gives : GivesAll l.initial.self (take l.op-index l.ops) l.self;
  gains : Gains l.initial.self.given l.notes.items l.self.given;
}
