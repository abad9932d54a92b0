use Rattle.std.proofs.Common.{◌≡◌, List, [], ◌∷◌, refl, codes}
use Rattle.sqlite_tied.specs.Compute.{everything}
use Rattle.sqlite.specs.Listing.{understood}
use Rattle.sqlite.specs.Term.{Term}
use Rattle.sqlite.specs.Schema.{Schema}
use Rattle.sqlite.specs.Source.TheVariants.{Values}
use Rattle.sqlite.specs.Command.TheVariants.{Insert, Select, Update}
use Rattle.sqlite.proofs.Callers.{IsPlain, command_of}
use Rattle.fl_sql_tables.specs.Tables.{self_table, ops_table, ops_key, insert_op_text, select_ops_text, raise_boot_text}
use Rattle.fl_sql_tables.proofs.Texts.{op_terms, ops_query, boot_query}

abbrev schema_with : List Term → Schema
schema_with checks = record { tables = (record self_table { checks = checks }) ∷ ops_table ∷ []; indexes = ops_key ∷ []; views = [] }

insert_op_is : (checks : List Term) → command_of (understood (schema_with checks) insert_op_text) ≡ Insert 1 (Values op_terms 4)
unfolding understood everything
insert_op_is checks = refl

raise_boot_is : (checks : List Term) → command_of (understood (schema_with checks) raise_boot_text) ≡ Update 0 (record { lets = []; body = boot_query })
unfolding understood everything
raise_boot_is checks = refl

select_ops_is : (checks : List Term) → command_of (understood (schema_with checks) select_ops_text) ≡ Select (record { lets = []; body = ops_query }) (codes "node" ∷ codes "seq" ∷ codes "bytes" ∷ [])
unfolding understood everything
select_ops_is checks = refl

plain : (checks : List Term) → IsPlain (understood (schema_with checks) raise_boot_text)
unfolding understood everything
plain checks = (refl, refl)
