-- Two operations of different names.
use Rattle.std.specs.Prelude.{◌≢◌}
use Rattle.fl_ops.specs.declared.op.Op.{Op}

-- their names differ
pub record AreApart (first second : Op) : Type 0 where
  pub apart : first.name ≢ second.name
