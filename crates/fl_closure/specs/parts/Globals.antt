-- What everybody has, and what operations give to everybody more.
use Rattle.std.specs.Prelude.{◌⊎◌, ◌↔◌, List}
use Rattle.fl_labels.specs.declared.cap.Cap.{Cap}
use Rattle.fl_ops.specs.declared.op.Op.{Op}
use Rattle.fl_ops.specs.Registry.{Listed}
use Rattle.fl_closure.specs.declared.globals.Globals.{Globals}
use Rattle.fl_closure.specs.declared.rows.Owner.TheVariants.{Everybody}
use Rattle.fl_closure.specs.parts.Closed.{IsGiven}
use Rattle.fl_closure.specs.parts.Rows.{Holds}

abbrev pub Has : Globals → Cap → Type 0
Has globals c = Holds globals.given Everybody c

-- what was given, and what the operations give
pub record GivesAll (old : Globals) (ops : List Op) (new : Globals) : Type 0 where
  pub has : (c : Cap) → Has new c ↔ (Has old c ⊎ IsGiven (Listed ops) Everybody c)
