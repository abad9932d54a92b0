-- A keeper's database has tables.
use Rattle.std.proofs.Common.{◌≡◌, List, [], ◌∷◌, refl, ap, subst}
use Rattle.std.specs.List.{AllZip}
use Rattle.sqlite.specs.Order.{Row}
use Rattle.sqlite.specs.Schema.{Schema}
use Rattle.sqlite.specs.Table.{Table}
use Rattle.sqlite.specs.Effect.{Database, IsDatabase}
use Rattle.sqlite_trees.specs.Objects.{catalog_tree}
use Rattle.sqlite_catalog.specs.Listing.{AreListed, IsTableRow}
use Rattle.fl_sql_tables.specs.Tables.{keeper_schema}
use Rattle.fl_sql_tables.specs.Stored.{IsListed}

some_listed : (objects : List Row) (schema : Schema) (t : Table) (ts : List Table) → schema.tables ≡ t ∷ ts → AreListed objects schema → (row : Row) × (rows : List Row) × (objects ≡ row ∷ rows)
some_listed [] schema t ts is h = absurd (subst (AllZip IsTableRow []) is h.tables)
some_listed (r ∷ rs) schema t ts is h = (r, rs, refl)

pub listed_if_sound : (db : Database) → IsDatabase db → db.schema ≡ keeper_schema → IsListed db.trees
listed_if_sound db sound is = some_listed (db.trees catalog_tree) db.schema _ _ (ap (λ s. s.tables) is) sound.lists.listed
