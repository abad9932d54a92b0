-- What the statements of a keeper mean over its schema.
use Rattle.std.proofs.Common.{◌≡◌, List, [], ◌∷◌, refl, codes, Ok, false, None, pos, negsuc}
use Rattle.sqlite.specs.Compile.{table_defined_by}
use Rattle.sqlite.specs.Change.{created}
use Rattle.sqlite_catalog.specs.Change.{without_table}
use Rattle.sqlite_tied.specs.Compute.{everything}
use Rattle.sqlite.specs.Listing.{understood, reads_listing}
use Rattle.sqlite.specs.declared.types.Value.TheVariants.{Null, Int}
use Rattle.sqlite.specs.Term.{Term, lit, col}
use Rattle.sqlite.specs.Query.{Query, inner, end}
use Rattle.sqlite.specs.Source.TheVariants.{Values}
use Rattle.sqlite.specs.Command.TheVariants.{Insert, Select, CreateTable, DropTable, Update}
use Rattle.sqlite.specs.Collation.TheVariants.{Binary}
use Rattle.sqlite_value.specs.Keys.{ascending}
use Rattle.sqlite.proofs.Callers.{IsPlain, command_of, statement_of}
use Rattle.fl_sql_tables.specs.Tables.{create_self_text, create_ops_text, self_table, ops_made, no_schema, keeper_schema, insert_self_text, insert_op_text, select_ops_text, select_self_text, raise_boot_text, self_schema, select_whole_text, drop_ops_text, set_format_text}

pub self_defined : table_defined_by create_self_text ≡ Ok self_table
unfolding everything
self_defined = refl

pub ops_defined : table_defined_by create_ops_text ≡ Ok ops_made
unfolding everything
ops_defined = refl

pub both_made : created (created no_schema self_table) ops_made ≡ keeper_schema
unfolding everything
both_made = refl

abbrev pub op_terms : List Term
op_terms = lit Null ∷ col 0 0 ∷ col 0 1 ∷ col 0 2 ∷ []

abbrev pub self_terms : List Term
self_terms = lit (Int (pos 1)) ∷ lit Null ∷ col 0 0 ∷ lit (Int (pos 0)) ∷ lit (Int (pos 2)) ∷ []

pub insert_self_is : command_of (understood keeper_schema insert_self_text) ≡ Insert 0 (Values self_terms 5)
unfolding understood everything
insert_self_is = refl

pub insert_op_is : command_of (understood keeper_schema insert_op_text) ≡ Insert 1 (Values op_terms 4)
unfolding understood everything
insert_op_is = refl

abbrev pub ops_query : Query
ops_query = record {
  from = inner 1 end;
  filter = [];
  group = None;
  project = col 1 1 ∷ col 1 2 ∷ col 1 3 ∷ [];
  distinct = false;
  collations = [];
  order = (col 1 1, ascending Binary) ∷ (col 1 2, ascending Binary) ∷ [];
  limit = lit (Int (negsuc 0));
  offset = lit (Int (pos 0));
}

pub select_ops_is : command_of (understood keeper_schema select_ops_text) ≡ Select (record { lets = []; body = ops_query }) (codes "node" ∷ codes "seq" ∷ codes "bytes" ∷ [])
unfolding understood everything
select_ops_is = refl

abbrev pub self_query : Query
self_query = record {
  from = inner 0 end;
  filter = [];
  group = None;
  project = col 1 2 ∷ col 1 3 ∷ col 1 4 ∷ [];
  distinct = false;
  collations = [];
  order = [];
  limit = lit (Int (negsuc 0));
  offset = lit (Int (pos 0));
}

pub select_self_is : command_of (understood keeper_schema select_self_text) ≡ Select (record { lets = []; body = self_query }) (codes "node" ∷ codes "boot" ∷ codes "format" ∷ [])
unfolding understood everything
select_self_is = refl

abbrev pub boot_query : Query
boot_query = record {
  from = inner 0 end;
  filter = [];
  group = None;
  project = col 1 0 ∷ col 1 0 ∷ lit Null ∷ col 1 2 ∷ col 0 0 ∷ col 1 4 ∷ [];
  distinct = false;
  collations = [];
  order = [];
  limit = lit (Int (negsuc 0));
  offset = lit (Int (pos 0));
}

pub raise_boot_is : command_of (understood keeper_schema raise_boot_text) ≡ Update 0 (record { lets = []; body = boot_query })
unfolding understood everything
raise_boot_is = refl

pub plain_1 : IsPlain (understood keeper_schema insert_op_text)
unfolding understood everything
plain_1 = (refl, refl)

pub plain_2 : IsPlain (understood keeper_schema insert_self_text)
unfolding understood everything
plain_2 = (refl, refl)

pub plain_3 : IsPlain (understood keeper_schema select_ops_text)
unfolding understood everything
plain_3 = (refl, refl)

pub plain_4 : IsPlain (understood keeper_schema raise_boot_text)
unfolding understood everything
plain_4 = (refl, refl)

pub unlisted_3 : reads_listing keeper_schema select_ops_text ≡ false
unfolding everything
unlisted_3 = refl

pub create_self_is : (command_of (understood no_schema create_self_text) ≡ CreateTable) × (statement_of create_self_text (understood no_schema create_self_text) ≡ create_self_text) × IsPlain (understood no_schema create_self_text)
unfolding understood everything
create_self_is = (refl, refl, (refl, refl))

pub create_ops_is : (command_of (understood self_schema create_ops_text) ≡ CreateTable) × (statement_of create_ops_text (understood self_schema create_ops_text) ≡ create_ops_text) × IsPlain (understood self_schema create_ops_text)
unfolding understood everything
create_ops_is = (refl, refl, (refl, refl))

pub self_made : created no_schema self_table ≡ self_schema
self_made = refl

pub ops_added : created self_schema ops_made ≡ keeper_schema
unfolding everything
ops_added = refl

pub plain_5 : IsPlain (understood keeper_schema select_self_text)
unfolding understood everything
plain_5 = (refl, refl)

pub unlisted_5 : reads_listing keeper_schema select_self_text ≡ false
unfolding everything
unlisted_5 = refl

abbrev pub whole_query : Query
whole_query = record {
  from = inner 0 end;
  filter = [];
  group = None;
  project = col 1 0 ∷ col 1 2 ∷ col 1 3 ∷ col 1 4 ∷ [];
  distinct = false;
  collations = [];
  order = [];
  limit = lit (Int (negsuc 0));
  offset = lit (Int (pos 0));
}

pub select_whole_is : command_of (understood keeper_schema select_whole_text) ≡ Select (record { lets = []; body = whole_query }) (codes "id" ∷ codes "node" ∷ codes "boot" ∷ codes "format" ∷ [])
unfolding understood everything
select_whole_is = refl

pub plain_6 : IsPlain (understood keeper_schema select_whole_text)
unfolding understood everything
plain_6 = (refl, refl)

pub unlisted_6 : reads_listing keeper_schema select_whole_text ≡ false
unfolding everything
unlisted_6 = refl

pub drop_ops_is : command_of (understood keeper_schema drop_ops_text) ≡ DropTable 1
unfolding understood everything
drop_ops_is = refl

pub plain_7 : IsPlain (understood keeper_schema drop_ops_text)
unfolding understood everything
plain_7 = (refl, refl)

pub ops_dropped : without_table keeper_schema 1 ≡ self_schema
ops_dropped = refl

abbrev pub format_query : Query
format_query = record {
  from = inner 0 end;
  filter = [];
  group = None;
  project = col 1 0 ∷ col 1 0 ∷ lit Null ∷ col 1 2 ∷ col 1 3 ∷ lit (Int (pos 2)) ∷ [];
  distinct = false;
  collations = [];
  order = [];
  limit = lit (Int (negsuc 0));
  offset = lit (Int (pos 0));
}

pub set_format_is : command_of (understood keeper_schema set_format_text) ≡ Update 0 (record { lets = []; body = format_query })
unfolding understood everything
set_format_is = refl

pub plain_8 : IsPlain (understood keeper_schema set_format_text)
unfolding understood everything
plain_8 = (refl, refl)
