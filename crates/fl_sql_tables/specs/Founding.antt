-- How a keeper's database is made, and how one is opened.
use Rattle.std.specs.Prelude.{◌≡◌, ◌≢◌, ◌<◌, ℕ, pos, Bool, true, false, ◌&&◌, ◌==◌, nat_lt, if◌then◌else◌, Option, Some, None, List, [], ◌∷◌, IsTrue}
use Rattle.sqlite.specs.declared.types.Value.TheVariants.{Int}
use Rattle.sqlite.specs.Order.{Row, column}
use Rattle.fl_sql_tables.specs.declared.itself.Itself.{Itself}
use Rattle.fl_sql_tables.specs.declared.itself.Itself.TheVariants.{Bad, Other, Own}
use Rattle.sqlite.specs.Tree.{Trees}
use Rattle.sqlite_trees.specs.Objects.{catalog_tree}
use Rattle.sqlite.specs.Effect.{Database}
use Rattle.sqlite.specs.State.{State, Shows}
use Rattle.fl_sql_tables.specs.Tables.{keeper_schema, self_schema}
use Rattle.fl_ops.specs.declared.format.Format.{Format}
use Rattle.fl_ops.specs.declared.format.Format.TheVariants.{One, Two}
use Rattle.fl_ops.specs.Format.{format_byte}
use Rattle.fl_sql_tables.specs.Stored.{self_row, IsListed}
use Rattle.fl_sql_tables.specs.Spelling.{whole_in}

pub record MakesSelf (old new : State) : Type 0 where
  pub schema : new.now.schema ≡ self_schema
  pub none : new.now.trees 0 ≡ []
  pub shown : Shows old new new.now old.committed true

pub record MakesOps (old new : State) : Type 0 where
  pub schema : new.now.schema ≡ keeper_schema
  pub none : new.now.trees 1 ≡ []
  pub itself : new.now.trees 0 ≡ old.now.trees 0
  pub listed : IsListed new.now.trees
  pub shown : Shows old new new.now old.committed true

pub record StartsSelf (number : ℕ) (old new : State) : Type 0 where
  pub schema : new.now.schema ≡ keeper_schema
  pub itself : new.now.trees 0 ≡ self_row Two number 0 ∷ []
  pub ops : new.now.trees 1 ≡ old.now.trees 1
  pub catalog : new.now.trees catalog_tree ≡ old.now.trees catalog_tree
  pub shown : Shows old new new.now old.committed true

-- both tables, with the row of the node and no operation
pub record IsFounded (number : ℕ) (db : Database) : Type 0 where
  pub schema : db.schema ≡ keeper_schema
  pub itself : db.trees 0 ≡ self_row Two number 0 ∷ []
  pub none : db.trees 1 ≡ []
  pub listed : IsListed db.trees

pub record Founds (number : ℕ) (old new : State) : Type 0 where
  pub founded : IsFounded number new.now
  pub shown : Shows old new new.now new.now false

abbrev pub FoundsTo : ℕ → State → Trees → Type 0
FoundsTo number old db = IsTrue old.is_open × (new : Database) × IsFounded number new × (db ≡ new.trees)

-- in a transaction, which goes on
pub record MakesTables (number : ℕ) (old new : State) : Type 0 where
  pub founded : IsFounded number new.now
  pub shown : Shows old new new.now old.committed true

-- what SELECT shows of the row of the node
abbrev pub shown_whole : Row → Row
shown_whole r = column r 0 ∷ column r 2 ∷ column r 3 ∷ column r 4 ∷ []

abbrev pub is_number : ℕ → Option ℕ → Bool
is_number n None = false
is_number n (Some m) = m == n

abbrev pub is_boot : Option ℕ → Bool
is_boot None = false
is_boot (Some n) = nat_lt n 4294967296

-- this node's row, of a format that there is
abbrev pub own_in : Option ℕ → Itself
own_in None = Bad
own_in (Some n) = if n == format_byte One then Own One else (if n == format_byte Two then Own Two else Bad)

-- whose row it is: this node's, with a boot in its range and of either format, or another's
abbrev pub owner_of : ℕ → Row → Itself
owner_of number (id ∷ node ∷ boot ∷ format ∷ []) =
    if is_number number (whole_in node)
    then (if is_boot (whole_in boot) && is_number 1 (whole_in id) then own_in (whole_in format) else Bad)
    else Other
owner_of number _ = Bad

-- what the shown rows say, which are one
abbrev pub itself_of : ℕ → List Row → Itself
itself_of number (row ∷ []) = owner_of number row
itself_of number _ = Bad

-- the table has one row, of this node and of this format
abbrev pub IsOwnIn : Format → ℕ → List Row → Type 0
IsOwnIn f number rows = (boot : ℕ) × (boot < 4294967296) × (rows ≡ self_row f number boot ∷ [])

-- one row, of this node
abbrev pub IsOwn : ℕ → List Row → Type 0
IsOwn number rows = (f : Format) × IsOwnIn f number rows

-- one row, of another node
abbrev pub IsOthers : ℕ → List Row → Type 0
IsOthers number rows = (row : Row) × (rows ≡ row ∷ []) × (column row 2 ≢ Int (pos number))

-- the row of the node in the table says so
abbrev pub IsItself : ℕ → State → Itself → Type 0
IsItself number s Bad = (¬ IsOwn number (s.now.trees 0)) × (¬ IsOthers number (s.now.trees 0))
IsItself number s Other = IsOthers number (s.now.trees 0)
IsItself number s (Own f) = IsOwnIn f number (s.now.trees 0)

-- outside a transaction
abbrev pub IsSettled : State → Type 0
IsSettled s = IsTrue s.is_open → s.now ≡ s.committed
