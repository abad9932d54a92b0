-- What INSERT makes of the table of operations.
use Rattle.std.proofs.Common.{◌≡◌, ◌⊎◌, inl, inr, ℕ, pos, List, [], ◌∷◌, Bool, true, false, cond, None, Ok, Err, Result, refl, ap, subst, ◌∙◌, arith}
use Rattle.sqlite.specs.declared.types.Value.{Value}
use Rattle.sqlite.specs.declared.types.Value.TheVariants.{Null, Int}
use Rattle.sqlite.specs.Order.{Row}
use Rattle.sqlite.specs.Ops.{unary}
use Rattle.sqlite.specs.Kind.TheVariants.{Integer}
use Rattle.sqlite.specs.Source.TheVariants.{Values}
use Rattle.sqlite.specs.Command.TheVariants.{Insert}
use Rattle.sqlite.specs.Edit.{Edit, edit_of, Applies, are_fresh, next_rowid, put_all}
use Rattle.sqlite_schema.specs.declared.schema.Keys.{Keys}
use Rattle.sqlite.specs.Cast.{cast}
use Rattle.sqlite.specs.Rowids.TheVariants.{Chosen}
use Rattle.sqlite.specs.Does.{Tally, Does}
use Rattle.sqlite.specs.Rows.{Written}
use Rattle.sqlite.specs.Tree.{Trees, put_row}
use Rattle.sqlite.specs.Listing.{understood}
use Rattle.sqlite_trees.specs.Objects.{catalog_tree}
use Rattle.sqlite.specs.Effect.{Database}
use Rattle.sqlite.specs.State.{State, mode_of, Executes}
use Rattle.sqlite.proofs.Callers.{statement_of, runs_as, one_step}
use Rattle.fl_sql_tables.specs.Tables.{keeper_schema, ops_table, insert_op_text}
use Rattle.fl_sql_tables.specs.Stored.{op_row, InsertsOp}
use Rattle.fl_sql_tables.proofs.Texts.{insert_op_is, plain_1, op_terms}
use Rattle.std.proofs.lemmas.Bool.{and_parts, not-true}

pub either : (b : Bool) (x : Value) → cond b x x ≡ x
either true x = refl
either false x = refl

pub cast_int : (n : ℕ) → cast Integer (Int (pos n)) ≡ Int (pos n)
unfolding unary
cast_int n = either _ (Int (pos n))

-- a part that gave a value did not stop on the way
pub went : {B E R : Type 0} {b : B} {Stops : E → Type 0} → ((stop : E) × Stops stop × (Ok b ≡ Err stop)) ⊎ R → R
went (inl stopped) = absurd (let e = stopped.2 in cc)
went (inr on) = on

pub same_value : {B E : Type 0} {a b : B} → ◌≡◌ {A = Result B E} (Ok a) (Ok b) → a ≡ b
same_value e = cc

pub cast_null : cast Integer Null ≡ Null
unfolding unary
cast_null = either _ Null

-- the row as it is stored
abbrev numbered_row : Trees → ℕ → ℕ → List ℕ → Row
numbered_row db node seq bytes = Int (next_rowid (db 1)) ∷ op_row node seq bytes

abbrev op_edit : Trees → List Row → Edit
op_edit db given = edit_of db ops_table [] Chosen 0 given

news_are : (db : Trees) (given : List Row) (node seq : ℕ) (bytes : List ℕ) → given ≡ (Null ∷ op_row node seq bytes) ∷ [] → (op_edit db given).news ≡ numbered_row db node seq bytes ∷ []
news_are db given node seq bytes is = rw (is, cast_null, cast_int node, cast_int seq)

after_insert : (keys : Keys) (old new : Database) (next : Trees) (given : List Row) (node seq : ℕ) (bytes : List ℕ) → given ≡ (Null ∷ op_row node seq bytes) ∷ []
    → new ≡ record { schema = keeper_schema; trees = next } → Applies keeper_schema keys old.trees (op_edit old.trees given) next → InsertsOp (op_row node seq bytes) old new
after_insert keys old new next given node seq bytes is now a =
    let news = news_are old.trees given node seq bytes is in
    let fresh : are_fresh (old.trees 1) (numbered_row old.trees node seq bytes ∷ []) ≡ true = subst (λ l. are_fresh (old.trees 1) l ≡ true) news a.fresh in
    let rows : next 1 ≡ put_row (numbered_row old.trees node seq bytes) (old.trees 1) = a.rows ∙ ap (put_all (old.trees 1)) news in
    record {
      id = Int (next_rowid (old.trees 1));
      schema = ap (λ (d : Database). d.schema) now;
      itself = ap (λ (d : Database). d.trees 0) now ∙ a.others 0 (omega arith) (omega arith, tt);
      catalog = ap (λ (d : Database). d.trees catalog_tree) now ∙ a.others catalog_tree (omega arith) (omega arith, tt);
      fresh = not-true _ (and_parts _ _ fresh).0;
      rows = ap (λ (d : Database). d.trees 1) now ∙ rows;
    }

pub inserts_op : (old new : State) (node seq : ℕ) (bytes : List ℕ) (count : ℕ) → old.now.schema ≡ keeper_schema → Executes insert_op_text (op_row node seq bytes) old new (Ok count)
    → InsertsOp (op_row node seq bytes) old.now new.now
inserts_op old new node seq bytes count has h =
    let params = op_row node seq bytes in
    let db = old.now.trees in
    let command = Insert 1 (Values op_terms 4) in
    let w = runs_as insert_op_text params old new keeper_schema has command insert_op_is plain_1 count h in
    let text = statement_of insert_op_text (understood keeper_schema insert_op_text) in
    let done = went (subst (λ s. Does old.step_limit (mode_of old) params (record old.now { schema = s }) text None command (Ok (w.tally, new.now))) has w.changed) in
    let now = ap (λ (p : Tally × Database). p.1) (same_value (went (went done.2).2).2) in
    let given = went done.1 in
    let written = went (went given.2).2 in
    let counted = went written.2 in
    let trees : done.0.trees ≡ written.0 = ap (λ (it : Written). it.trees) (same_value counted.2) ∙ same_value counted.1 in
    after_insert _ old.now new.now written.0 given.0 node seq bytes given.1.1 (now ∙ ap (λ t. record { schema = keeper_schema; trees = t }) trees) (one_step keeper_schema _ db written.0 (op_edit db given.0) refl written.1)
