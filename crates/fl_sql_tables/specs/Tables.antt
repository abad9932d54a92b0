-- The two tables of a keeper's database.
use Rattle.sqlite.specs.Collation.TheVariants.{Binary}
use Rattle.std.specs.Prelude.{Bool, true, false, [], ◌∷◌, None, Some, codes, List, ℕ}
use Rattle.sqlite.specs.declared.types.Value.TheVariants.{Null}
use Rattle.sqlite.specs.Table.{Table}
use Rattle.sqlite.specs.Schema.{Schema}
use Rattle.sqlite_schema.specs.declared.schema.Kind.{Kind}
use Rattle.sqlite.specs.Kind.TheVariants.{Integer, Blob}
use Rattle.sqlite_schema.specs.declared.schema.Column.{Column}
use Rattle.sqlite.specs.Term.{Term}
use Rattle.sqlite_schema.specs.declared.schema.Index.{Index}
use Rattle.sqlite_value.specs.Keys.{plain}
use Rattle.fl_sql_tables.specs.OwnCheck.{own_check}

abbrev pub create_self_text : List ℕ
create_self_text = codes "CREATE TABLE self (id INTEGER PRIMARY KEY CHECK (id = 1), node INTEGER NOT NULL, boot INTEGER NOT NULL, format INTEGER NOT NULL) STRICT"

abbrev pub create_ops_text : List ℕ
create_ops_text = codes "CREATE TABLE ops (node INTEGER NOT NULL, seq INTEGER NOT NULL, bytes BLOB NOT NULL, PRIMARY KEY (node, seq)) STRICT"

abbrev pub no_schema : Schema
no_schema = record { tables = []; indexes = []; views = [] }

abbrev pub whole : List ℕ → Column
whole name = record {
  name = name;
  kind = Integer;
  is_strict = true;
  not_null = true;
  default = Null;
  collation = Binary;
}

abbrev pub self_table : Table
self_table = record {
  name = codes "self";
  tree = 0;
  columns = (record { name = codes "id"; kind = Integer; is_strict = true; not_null = false; default = Null; collation = Binary }) ∷ whole (codes "node") ∷ whole (codes "boot") ∷ whole (codes "format") ∷ [];
  key = Some 0;
  primary = 0 ∷ [];
  uniques = [];
  orders = [];
  checks = own_check ∷ [];
  references = [];
  computed = [];
  stamps = record { places = []; terms = []; formats = [] };
  is_counted = false;
}

abbrev pub ops_made : Table
ops_made = record {
  name = codes "ops";
  tree = 0;
  columns = whole (codes "node") ∷ whole (codes "seq") ∷ (record { name = codes "bytes"; kind = Blob; is_strict = true; not_null = true; default = Null; collation = Binary }) ∷ [];
  key = None;
  primary = 1 ∷ 2 ∷ [];
  uniques = (1 ∷ 2 ∷ []) ∷ [];
  orders = plain ∷ [];
  checks = [];
  references = [];
  computed = [];
  stamps = record { places = []; terms = []; formats = [] };
  is_counted = false;
}

abbrev pub ops_table : Table
ops_table = record ops_made { tree = 1 }

abbrev pub ops_key : Index
ops_key = record { name = codes "sqlite_autoindex_ops_1"; tree = 2; table = 1; columns = 1 ∷ 2 ∷ []; order = plain; is_unique = true }

-- the schema of a keeper's database
abbrev pub keeper_schema : Schema
keeper_schema = record { tables = self_table ∷ ops_table ∷ []; indexes = ops_key ∷ []; views = [] }

abbrev pub insert_self_text : List ℕ
insert_self_text = codes "INSERT INTO self (id, node, boot, format) VALUES (1, ?1, 0, 2)"

abbrev pub insert_op_text : List ℕ
insert_op_text = codes "INSERT INTO ops (node, seq, bytes) VALUES (?1, ?2, ?3)"

abbrev pub select_ops_text : List ℕ
select_ops_text = codes "SELECT node, seq, bytes FROM ops ORDER BY node, seq"

abbrev pub select_self_text : List ℕ
select_self_text = codes "SELECT node, boot, format FROM self"

abbrev pub raise_boot_text : List ℕ
raise_boot_text = codes "UPDATE self SET boot = ?1"

abbrev pub drop_ops_text : List ℕ
drop_ops_text = codes "DROP TABLE ops"

abbrev pub set_format_text : List ℕ
set_format_text = codes "UPDATE self SET format = 2"

abbrev pub self_schema : Schema
self_schema = record { tables = self_table ∷ []; indexes = []; views = [] }

abbrev pub column_of : List ℕ → Kind → Bool → Column
column_of name kind not_null = record { name = name; kind = kind; is_strict = true; not_null = not_null; default = Null; collation = Binary }

-- whatever its CHECK says
abbrev pub self_table_with : List Term → Table
self_table_with checks = record self_table { checks = checks }

abbrev pub schema_with : List Term → Schema
schema_with checks = record { tables = self_table_with checks ∷ ops_table ∷ []; indexes = ops_key ∷ []; views = [] }

abbrev pub select_whole_text : List ℕ
select_whole_text = codes "SELECT id, node, boot, format FROM self"
