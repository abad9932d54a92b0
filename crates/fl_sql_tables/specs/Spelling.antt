-- The operation that the columns of a row spell, in either format.
use Rattle.std.specs.Prelude.{◌≡◌, ℕ, ◌&&◌, ◌==◌, if◌then◌else◌, List, [], ◌∷◌, Option, Some, None, pos}
use Rattle.std.specs.Option.{option_and_then}
use Rattle.sqlite.specs.declared.types.Value.{Value}
use Rattle.sqlite.specs.declared.types.Value.TheVariants.{Int, Blob}
use Rattle.sqlite.specs.Order.{Row}
use Rattle.fl_ops.specs.declared.format.Format.TheVariants.{Two}
use Rattle.fl_ops.specs.declared.op.Op.{Op}
use Rattle.fl_ops.specs.Bytes.{op_bytes}
use Rattle.fl_sql_tables.specs.Spells.{Reads}
use Rattle.fl_sql_tables.specs.laws.Deciding.{reads}

-- what bytes spell, if they spell an operation: whatever else it is, `Reads` says so of it
abbrev pub op_at : List ℕ → Option Op
op_at bytes = (reads bytes).0

-- where it has this name
abbrev pub op_if : ℕ → ℕ → Op → Option Op
op_if node seq op = if (op.name.node == node) && (op.name.seq == seq) then Some op else None

abbrev pub whole_in : Value → Option ℕ
whole_in (Int (pos n)) = Some n
whole_in _ = None

abbrev pub blob_in : Value → Option (List ℕ)
blob_in (Blob bytes) = Some bytes
blob_in _ = None

-- what a node, a number of it and bytes spell
abbrev pub spelled_by : Option ℕ → Option ℕ → Option (List ℕ) → Option Op
spelled_by (Some node) (Some seq) (Some bytes) = option_and_then (op_if node seq) (op_at bytes)
spelled_by _ _ _ = None

-- the operation that the three columns of a row spell, if they spell one
abbrev pub op_of : Row → Option Op
op_of (node ∷ seq ∷ bytes ∷ []) = spelled_by (whole_in node) (whole_in seq) (blob_in bytes)
op_of _ = None

-- what the columns are for an operation, in the second format
abbrev pub row_of : Op → Row
row_of op = Int (pos op.name.node) ∷ Int (pos op.name.seq) ∷ Blob (op_bytes Two op) ∷ []
