-- What a keeper is asked.
use Rattle.std.specs.Prelude.{List}
use Rattle.fl_ops.specs.declared.op.Op.{Op}

pub data Call : Type 0 where
  Load : Call
  Boot : Call
  Save : List Op → Call
