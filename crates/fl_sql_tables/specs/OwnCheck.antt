-- The CHECK of the table of the node itself, `id = 1`, as a term and by its nodes.
use Rattle.std.specs.Prelude.{ℕ, pos}
use Rattle.sqlite.specs.Collation.TheVariants.{Binary as Bytewise}
use Rattle.sqlite.specs.declared.types.Value.TheVariants.{Int}
use Rattle.sqlite.specs.Term.{Term, lit, col, op2}
use Rattle.sqlite_sql.specs.declared.ops.BinaryOp.TheVariants.{Compare}
use Rattle.sqlite_sql.specs.declared.ops.CompareOp.TheVariants.{Eq}
use Rattle.sqlite_schema.specs.declared.code.Op.{Op}
use Rattle.sqlite_schema.specs.declared.code.Op.TheVariants.{Literal, Column, Binary}

abbrev pub own_check : Term
own_check = op2 (Compare Eq Bytewise) (col 1 0) (lit (Int (pos 1)))

-- a node that compares two others
abbrev pub equals : ℕ → ℕ → Op
equals left right = Binary (Compare Eq Bytewise) left right

-- a node that reads the first column
abbrev pub id_read : Op
id_read = Column 1 0

-- a node that is the number 1
abbrev pub one_told : Op
one_told = Literal (Int (pos 1))
