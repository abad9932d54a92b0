-- Which operation bytes spell, in either format.
use Rattle.std.specs.Prelude.{◌≡◌, ℕ, List, Option, Some, None}
use Rattle.fl_ops.specs.declared.format.Format.{Format}
use Rattle.fl_ops.specs.declared.op.Op.{Op}
use Rattle.fl_ops.specs.Bytes.{op_bytes}
use Rattle.fl_ops.specs.Fits.{HasOp}

-- the bytes are the operation's in some format that has it
abbrev pub Spells : List ℕ → Op → Type 0
Spells bytes op = (f : Format) × HasOp f op × (op_bytes f op ≡ bytes)

-- the operation that they spell, or none where they spell none
abbrev pub Reads : List ℕ → Option Op → Type 0
Reads bytes None = (op : Op) → ¬ Spells bytes op
Reads bytes (Some op) = Spells bytes op
