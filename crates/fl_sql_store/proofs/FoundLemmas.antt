-- What an opening leaves to the next.
use Rattle.std.proofs.Common.{◌≡◌, ◌<◌, ◌⊎◌, inl, inr, ℕ, List, [], ◌∷◌, Bool, true, not, ◌||◌, IsTrue, refl, sym, ap, subst, ◌∙◌, arith, filter}
use Rattle.std.specs.List.{AllZip}
use Rattle.std.proofs.lemmas.Bool.{cases_Bool}
use Rattle.sqlite.specs.Order.{Row}
use Rattle.sqlite.specs.Tree.{Trees}
use Rattle.sqlite_trees.specs.Objects.{catalog_tree}
use Rattle.sqlite_catalog.specs.Listing.{AreListed, IsTableRow, IsIndexRow, IsViewRow, is_table_row, is_index_row, is_view_row}
use Rattle.sqlite.specs.Effect.{Database, IsDatabase}
use Rattle.sqlite.specs.State.{State, HasCleanDisk, IsLive, IsUnchanged, Survives}
use Rattle.fl_sql_tables.specs.Tables.{keeper_schema, no_schema}
use Rattle.sqlite.specs.State.{FailsToQuery}
use Rattle.sqlite.specs.declared.error.Error.{Error}
use Rattle.sqlite.specs.declared.error.Error.TheVariants.{SqliteFailure}
use Rattle.sqlite.specs.declared.error.ErrorCode.TheVariants.{OutOfMemory}
use Rattle.fl_store.specs.declared.keeper.KeeperFault.{KeeperFault}
use Rattle.fl_store.specs.declared.keeper.KeeperFault.TheVariants.{Memory, Broken}
use Rattle.fl_sql_tables.specs.Tables.{select_whole_text}
use Rattle.fl_sql_tables.specs.Failing.{FailsToFound, RunsOut}
use Rattle.fl_sql_store.specs.Opening.{IsFailure, RefusesToServe}
use Rattle.fl_store.specs.Kept.{Kept}
use Rattle.fl_ops.specs.declared.format.Format.TheVariants.{Two}
use Rattle.fl_sql_tables.specs.Stored.{IsListed, if_listed, nothing_kept, kept_by, kept_in, ops_in, boot_in, HasSelf}
use Rattle.fl_store.specs.Keeping.{Stays}
use Rattle.fl_sql_tables.specs.Serving.{IsReady}
use Rattle.fl_sql_store.specs.SqlKeeping.{held_in}
use Rattle.fl_sql_tables.specs.Founding.{IsFounded, Founds, FoundsTo, IsSettled}
use Rattle.fl_sql_store.proofs.KeepLemmas.{kept_listed}
use Rattle.fl_sql_tables.specs.laws.Listed.{listed_if_sound}

head_kept : (p : Row → Bool) (r : Row) (rows : List Row) → p r ≡ true → filter p (r ∷ rows) ≡ r ∷ filter p rows
head_kept p r rows h = rw h

nothing_listed : (objects : List Row) → AreListed objects no_schema → objects ≡ []
nothing_listed [] h = refl
nothing_listed (r ∷ rows) h = elim (cases_Bool (is_table_row r)) [
  | inl table ↦ absurd (subst (λ l. AllZip IsTableRow l []) (head_kept is_table_row r rows table) h.tables)
  | inr no_table ↦ elim (cases_Bool (is_view_row r)) [
    | inl view ↦ absurd (subst (λ l. AllZip IsViewRow l []) (head_kept is_view_row r rows view) h.views)
    | inr no_view ↦
        let index : is_index_row r ≡ true = ap (λ b. not (b || is_view_row r)) no_table ∙ ap not no_view in
        absurd (subst (λ l. AllZip (IsIndexRow []) l []) (head_kept is_index_row r rows index) h.indexes)
  ]
]

kept_blank : (number : ℕ) (db : Database) → IsDatabase db → db.schema ≡ no_schema → kept_in number db.trees ≡ nothing_kept number
kept_blank number db sound blank =
    ap (λ l. if_listed l (nothing_kept number) (kept_by number db.trees)) (nothing_listed (db.trees catalog_tree) (subst (AreListed (db.trees catalog_tree)) blank sound.lists.listed))

kept_founded : (number : ℕ) (db : Database) → IsFounded number db → kept_in number db.trees ≡ nothing_kept number
kept_founded number db h =
    kept_listed number db.trees h.listed
    ∙ ap (λ l. record { number = number; boot = boot_in (db.trees 0); saved = ops_in l }) h.none
    ∙ ap (λ l. record { number = number; boot = boot_in l; saved = ops_in [] }) h.itself

module _ (number : ℕ) (old : State) (blank : old.now.schema ≡ no_schema) (live : IsLive old) (settled : IsSettled old) (there : IsTrue old.is_open → old.may_leave old.committed.trees) where
  nothing_held : IsTrue old.is_open → (k : Kept) → k ≡ nothing_kept number → held_in number old k
  nothing_held is_open k is =
      (old.committed.trees, there is_open, is ∙ sym (kept_blank number old.committed (live is_open).1 (ap (λ d. d.schema) (sym (settled is_open)) ∙ blank)))

  pub held_founded : (new : State) → ((db : Trees) → IsTrue new.is_open → new.may_leave db → db ≡ new.committed.trees) → Founds number old new → Stays (held_in number old) (held_in number new)
  held_founded new only h after it =
      let is : after ≡ nothing_kept number = it.2 ∙ ap (kept_in number) (only it.0 h.shown.is_open it.1 ∙ ap (λ d. d.trees) h.shown.committed_is) ∙ kept_founded number new.now h.founded in
      (after, nothing_held h.shown.was_open after is, refl)

  pub held_or_founded : (new : State) → HasCleanDisk new → Survives old new (FoundsTo number old) → Stays (held_in number old) (held_in number new)
  held_or_founded new clean s after it = elim (s.crash clean it.0 it.1) [
    | inl first ↦ (kept_in number it.0, (it.0, first, refl), it.2)
    | inr made ↦ (after, nothing_held made.0 after (it.2 ∙ ap (kept_in number) made.3 ∙ kept_founded number made.1 made.2), refl)
  ]

pub ready_found : (number boot : ℕ) (old new : State) → boot < 4294967296 → old.now.schema ≡ keeper_schema → IsLive old → IsSettled old → IsUnchanged old new → HasSelf number boot (old.now.trees 0) → IsReady number new
ready_found number boot old new low ours live settled h one = record {
  is_open = h.0.is_open;
  schema = ap (λ d. d.schema) h.0.now_is ∙ ours;
  settled = h.0.now_is ∙ settled h.0.was_open ∙ sym h.0.committed_is;
  listed = subst (λ (d : Database). IsListed d.trees) (sym h.0.now_is) (listed_if_sound old.now (live h.0.was_open).0 ours);
  boot = boot;
  in_range = low;
  itself = (one.0, ap (λ d. d.trees 0) h.0.now_is ∙ one.1);
}

-- a new database is ready
pub ready_founded : (number : ℕ) (old new : State) → Founds number old new → IsReady number new
ready_founded number old new h = record {
  is_open = h.shown.is_open;
  schema = h.founded.schema;
  settled = sym h.shown.committed_is;
  listed = h.founded.listed;
  boot = 0;
  in_range = omega arith;
  itself = (Two, h.founded.itself);
}

-- the row of the node was not shown
pub not_shown : (number : ℕ) (old new : State) (e : Error) (fault : KeeperFault) → old.now.schema ≡ keeper_schema → (fault ≡ Memory) ⊎ (fault ≡ Broken)
    → (fault ≡ Memory → e ≡ SqliteFailure OutOfMemory) → (fault ≡ Broken → IsFailure e) → FailsToQuery select_whole_text [] old new e → RefusesToServe number old new fault
not_shown number old new e fault has (inl is) wants fails h =
    subst (RefusesToServe number old new) (sym is) (inl (has, subst (FailsToQuery select_whole_text [] old new) (wants is) h))
not_shown number old new e fault has (inr is) wants fails h = subst (RefusesToServe number old new) (sym is) (inr (inl (has, (e, fails is, h))))

-- the tables were not made
pub not_made : (number : ℕ) (old new : State) (e : Error) (fault : KeeperFault) → old.now.schema ≡ no_schema → (fault ≡ Memory) ⊎ (fault ≡ Broken)
    → (fault ≡ Memory → e ≡ SqliteFailure OutOfMemory) → (fault ≡ Broken → IsFailure e) → (IsTrue old.is_open → FailsToFound number old new e)
    → (e ≡ SqliteFailure OutOfMemory → RunsOut old new) → RefusesToServe number old new fault
not_made number old new e fault none (inl is) wants fails h out =
    subst (RefusesToServe number old new) (sym is) (inr (none, out (wants is)))
not_made number old new e fault none (inr is) wants fails h out =
    subst (RefusesToServe number old new) (sym is) (inr (inr (e, fails is, (none, h))))
