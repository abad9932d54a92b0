-- What SELECT shows of the table of operations.
use Rattle.std.proofs.Common.{◌≡◌, List, [], ◌∷◌, map, flat_map, refl, sym, ap, subst, ◌∙◌}
use Rattle.std.specs.List.Sorted.{IsPermutation}
use Rattle.std.proofs.lemmas.List.Sorted.{IsPermutation-map}
use Rattle.sqlite.specs.declared.types.Value.TheVariants.{Null}
use Rattle.sqlite.specs.Order.{Row}
use Rattle.sqlite.specs.Query.{IsAnswer, output, Output}
use Rattle.sqlite.specs.Program.{overlay}
use Rattle.sqlite.specs.Term.{Env}
use Rattle.sqlite.specs.State.{State, Shown}
use Rattle.sqlite.proofs.Callers.{reads_as}
use Rattle.fl_sql_tables.specs.Tables.{keeper_schema, select_ops_text, select_whole_text}
use Rattle.fl_sql_tables.specs.Stored.{shown_op}
use Rattle.fl_sql_tables.proofs.Texts.{select_ops_is, plain_3, unlisted_3, ops_query, select_whole_is, plain_6, unlisted_6, whole_query}
use Rattle.fl_sql_tables.specs.Founding.{shown_whole}

abbrev env_of : Row → Env
env_of r = [] ∷ r ∷ []

each_alone : (rows : List Row) → flat_map (λ r. env_of r ∷ []) rows ≡ map env_of rows
each_alone [] = refl
each_alone (r ∷ rows) = ap (λ l. env_of r ∷ l) (each_alone rows)

shown_all : (rows : List Row) → map (λ (o : Output). o.1) (map (output ops_query) (map env_of rows)) ≡ map shown_op rows
shown_all [] = refl
shown_all (r ∷ rows) = ap (λ l. shown_op r ∷ l) (shown_all rows)

pub selects_ops : (old new : State) (rows : List Row) → old.now.schema ≡ keeper_schema → Shown select_ops_text [] old new rows
    → IsPermutation (map shown_op (old.now.trees 1)) rows
selects_ops old new rows has h =
    let got = reads_as select_ops_text [] old new keeper_schema has _ select_ops_is plain_3 unlisted_3 rows h in
    let a : IsAnswer ops_query (overlay old.now.trees []) [] rows = got.answer Null in
    let staged : a.staged ≡ map env_of (old.now.trees 1) = a.grouped ∙ each_alone (old.now.trees 1) in
    let kept : a.kept ≡ map (output ops_query) (map env_of (old.now.trees 1)) = a.distinct ∙ ap (map (output ops_query)) staged in
    let shown = IsPermutation-map (λ (o : Output). o.1) _ _ (subst (λ k. IsPermutation k a.ordered) kept a.same) in
    subst (IsPermutation (map shown_op (old.now.trees 1))) (sym a.shown) (subst (λ l. IsPermutation l (map (λ (o : Output). o.1) a.ordered)) (shown_all (old.now.trees 1)) shown)

shown_all_whole : (rows : List Row) → map (λ (o : Output). o.1) (map (output whole_query) (map env_of rows)) ≡ map shown_whole rows
shown_all_whole [] = refl
shown_all_whole (r ∷ rows) = ap (λ l. shown_whole r ∷ l) (shown_all_whole rows)

pub selects_whole : (old new : State) (rows : List Row) → old.now.schema ≡ keeper_schema → Shown select_whole_text [] old new rows → IsPermutation (map shown_whole (old.now.trees 0)) rows
selects_whole old new rows has h =
    let got = reads_as select_whole_text [] old new keeper_schema has _ select_whole_is plain_6 unlisted_6 rows h in
    let a : IsAnswer whole_query (overlay old.now.trees []) [] rows = got.answer Null in
    let staged : a.staged ≡ map env_of (old.now.trees 0) = a.grouped ∙ each_alone (old.now.trees 0) in
    let kept : a.kept ≡ map (output whole_query) (map env_of (old.now.trees 0)) = a.distinct ∙ ap (map (output whole_query)) staged in
    let shown = IsPermutation-map (λ (o : Output). o.1) _ _ (subst (λ k. IsPermutation k a.ordered) kept a.same) in
    subst (IsPermutation (map shown_whole (old.now.trees 0))) (sym a.shown) (subst (λ l. IsPermutation l (map (λ (o : Output). o.1) a.ordered)) (shown_all_whole (old.now.trees 0)) shown)
