-- What a keeper's database holds.
use Rattle.std.specs.Prelude.{◌≡◌, ◌⊎◌, is_none, ℕ, pos, List, [], ◌∷◌, ◌++◌, true, false, map}
use Rattle.sqlite.specs.declared.types.Value.{Value}
use Rattle.sqlite.specs.declared.types.Value.TheVariants.{Null, Int, Blob}
use Rattle.sqlite.specs.Order.{Row, column}
use Rattle.sqlite.specs.Tree.{Trees, put_row}
use Rattle.sqlite.specs.Edit.{is_taken}
use Rattle.sqlite_trees.specs.Objects.{catalog_tree}
use Rattle.sqlite.specs.Effect.{Database}
use Rattle.std.specs.Prelude.{Option, Some, IsTrue, ◌<◌, length}
use Rattle.std.specs.List.{filter_map, list_any}
use Rattle.std.specs.List.Sorted.{IsPermutation}
use Rattle.fl_labels.specs.SetBy as set
use Rattle.fl_labels.specs.SetBy.{SetBy}
use Rattle.fl_ops.specs.declared.format.Format.{Format}
use Rattle.fl_ops.specs.declared.op.Op.{Op}
use Rattle.fl_ops.specs.Format.{format_byte}
use Rattle.fl_ops.specs.OpOrder.{op_cmp}
use Rattle.fl_store.specs.Kept.{Kept, HasNamesOnce, with_ops}
use Rattle.sqlite.specs.State.{State, Shows}
use Rattle.fl_sql_tables.specs.Spelling.{op_of, row_of}
use Rattle.fl_sql_tables.specs.Tables.{keeper_schema}

-- what INSERT is given
abbrev pub op_row : ℕ → ℕ → List ℕ → Row
op_row node seq bytes = Int (pos node) ∷ Int (pos seq) ∷ Blob bytes ∷ []

-- one row more in the table of operations, under a rowid that no row has
pub record InsertsOp (row : Row) (old new : Database) : Type 0 where
  pub id : Value
  pub schema : new.schema ≡ keeper_schema
  pub itself : new.trees 0 ≡ old.trees 0
  pub catalog : new.trees catalog_tree ≡ old.trees catalog_tree
  pub fresh : is_taken (old.trees 1) (id ∷ row) ≡ false
  pub rows : new.trees 1 ≡ put_row (id ∷ row) (old.trees 1)

-- the columns that SELECT shows
abbrev pub shown_op : Row → Row
shown_op r = column r 1 ∷ column r 2 ∷ column r 3 ∷ []

-- the row of the node itself in a database of a format, as it is stored
abbrev pub self_row : Format → ℕ → ℕ → Row
self_row f node boot = Int (pos 1) ∷ Null ∷ Int (pos node) ∷ Int (pos boot) ∷ Int (pos (format_byte f)) ∷ []

-- the one row of the node itself, in either format
abbrev pub HasSelf : ℕ → ℕ → List Row → Type 0
HasSelf number boot rows = (f : Format) × (rows ≡ self_row f number boot ∷ [])

-- the operation that a stored row spells
abbrev pub op_in : Row → Option Op
op_in r = op_of (shown_op r)

-- the operations that rows spell
abbrev pub ops_in : List Row → SetBy op_cmp
ops_in rows = set.of_list (filter_map op_in rows)

-- a row spells no operation, or two operations have one name
abbrev pub HasBadRow : List Row → Type 0
HasBadRow rows = IsTrue (list_any (λ r. is_none (op_in r)) rows) ⊎ ¬ HasNamesOnce (ops_in rows)

-- what SELECT shows of some rows of the table spells these operations, whose names differ
pub record ReadsGood (table : List Row) (read : List Op) : Type 0 where
  pub shown : List Row
  pub rest : List Row
  pub among : IsPermutation (map shown_op table) (shown ++ rest)
  pub spelled : map op_of shown ≡ map Some read
  pub once : HasNamesOnce (set.of_list read)

-- some rows of the table were read, and none of them is bad
abbrev pub HasReadGood : List Row → Type 0
HasReadGood table = (read : List Op) × (0 < length read) × ReadsGood table read

abbrev pub whole_at : Row → ℕ → ℕ
whole_at r at = count_in (column r at)
  where
    count_in : Value → ℕ
    count_in (Int (pos n)) = n
    count_in _ = 0

-- none and 0 in a database with no tables
abbrev pub boot_in : List Row → ℕ
boot_in [] = 0
boot_in (r ∷ rows) = whole_at r 3

abbrev pub if_listed : List Row → Kept → Kept → Kept
if_listed [] none some = none
if_listed (r ∷ rows) none some = some

-- of this node, when nothing was saved yet
abbrev pub nothing_kept : ℕ → Kept
nothing_kept number = record { number = number; boot = 0; saved = set.empty }

abbrev pub kept_by : ℕ → Trees → Kept
kept_by number db = record { number = number; boot = boot_in (db 0); saved = ops_in (db 1) }

-- what a database keeps of this node: nothing where it has no tables
abbrev pub kept_in : ℕ → Trees → Kept
kept_in number db = if_listed (db catalog_tree) (nothing_kept number) (kept_by number db)

-- it has tables
abbrev pub IsListed : Trees → Type 0
IsListed db = (row : Row) × (rows : List Row) × (db catalog_tree ≡ row ∷ rows)

-- the database has the operations too, each by one row more, and no other row
pub record AddsOps (ops : List Op) (old new : Database) : Type 0 where
  pub schema : new.schema ≡ keeper_schema
  pub itself : new.trees 0 ≡ old.trees 0
  pub catalog : new.trees catalog_tree ≡ old.trees catalog_tree
  pub rows : IsPermutation (map shown_op (new.trees 1)) (map shown_op (old.trees 1) ++ map row_of ops)
  pub added : ops_in (new.trees 1) ≡ with_ops (ops_in (old.trees 1)) ops

-- in a transaction, which goes on
pub record PutsIn (ops : List Op) (old new : State) : Type 0 where
  pub added : AddsOps ops old.now new.now
  pub shown : Shows old new new.now old.committed true

-- the trees of a database that has the operations too
abbrev pub AddsTo : List Op → Database → Trees → Type 0
AddsTo ops old db = (new : Database) × AddsOps ops old new × (db ≡ new.trees)

-- they are committed
pub record Saves (ops : List Op) (old new : State) : Type 0 where
  pub added : AddsOps ops old.now new.now
  pub shown : Shows old new new.now new.now false

-- nothing was committed, and the transaction is over
pub record IsUndone (old new : State) : Type 0 where
  pub was_open : IsTrue new.is_open → IsTrue old.is_open
  pub now_is : IsTrue new.is_open → new.now ≡ old.committed
  pub committed_is : IsTrue new.is_open → new.committed ≡ old.committed

-- while it is open, it has the schema of a keeper
abbrev pub IsOurs : State → Type 0
IsOurs s = IsTrue s.is_open → s.now.schema ≡ keeper_schema
