-- Why a call over a keeper's database fails.
use Rattle.std.proofs.Common.{◌≡◌, ◌⊎◌, inl, inr, ℕ, ◌≤◌, List, [], ◌∷◌, length, Bool, true, false, IsTrue, Some, None, Option, Ok, Err, Result, codes, IfErr, ◌<◌, pos, ◌||◌, refl, sym, ap, subst, subst₂, ◌∙◌, arith, append-nil}
use Rattle.std.specs.Prelude.{IsSome}
use Rattle.sqlite.specs.Disk.{MoreFaults}
use Rattle.sqlite_trees.specs.declared.error.StoreError.{StoreError}
use Rattle.sqlite_trees.specs.declared.error.StoreError.TheVariants.{OutOfMemory, Io, Corrupt, Full, Broken, Unstorable}
use Rattle.sqlite_tied.specs.Compute.{everything}
use Rattle.sqlite.specs.Order.{Row}
use Rattle.sqlite.specs.Schema.{Schema}
use Rattle.sqlite.specs.Tree.{Trees}
use Rattle.sqlite.specs.Query.{Query}
use Rattle.sqlite.specs.Program.{overlay, QueryOverflows}
use Rattle.sqlite_typing.specs.Types.{accepts_program}
use Rattle.sqlite.specs.declared.error.Error.{Error}
use Rattle.sqlite.specs.declared.error.Error.TheVariants.{SqliteFailure}
use Rattle.sqlite.specs.declared.error.ErrorCode.TheVariants as code
use Rattle.sqlite.specs.Effect.{Database, RefusesToRead}
use Rattle.sqlite.specs.Listing.{understood, reads_listing, IsSourceOf}
use Rattle.sqlite.specs.Given.{IsPlain}
use Rattle.sqlite.specs.State.{State, Fails, HasCause, IsNotRun, IsNoStatement, FailsToQuery, store_error, is_disk_error}
use Rattle.sqlite.specs.Command.{Command}
use Rattle.sqlite.specs.Command.TheVariants.{Select}
use Rattle.sqlite_resolve.specs.declared.compiled.Compiled.{Compiled}
use Rattle.sqlite_resolve.specs.declared.error.CompileError.{CompileError}
use Rattle.sqlite.proofs.Callers.{command_of}
use Rattle.fl_sql_tables.specs.Tables.{keeper_schema, select_self_text, select_ops_text, insert_op_text, raise_boot_text}
use Rattle.sqlite.specs.Command.TheVariants.{Update, Insert, CreateTable, DropTable}
use Rattle.sqlite.specs.Order.{column}
use Rattle.sqlite.specs.declared.types.Value.TheVariants.{Int}
use Rattle.sqlite.specs.Steps.{FailsToCommit}
use Rattle.fl_ops.specs.declared.op.Op.{Op}
use Rattle.sqlite.specs.Does.{Does}
use Rattle.std.specs.Prelude.{◌&&◌, is_some, IsErrAnd}
use Rattle.sqlite.specs.Effect.{is_query}
use Rattle.sqlite.specs.State.{mode_of, is_pragma, QueriesRow, ExecutesIn, ExecutesInside, EndsScope, Escapes, IsMisplaced, shows_rows, RunsCommand, text_of}
use Rattle.fl_ops.specs.declared.format.Format.{Format}
use Rattle.fl_sql_tables.specs.Stored.{HasSelf, AddsOps, PutsIn, IsOurs, ops_in, shown_op}
use Rattle.std.proofs.Common.{take, drop, drop-cons, get_or, suc, ◌++◌, map}
use Rattle.std.specs.List.Sorted.{IsPermutation}
use Rattle.std.proofs.lemmas.List.Sorted.{IsPermutation-refl}
use Rattle.std.proofs.lemmas.List.{take-append-drop}
use Rattle.fl_sql_tables.proofs.StateLemmas.{zero_or}
use Rattle.fl_sql_tables.proofs.QueryLemmas.{runs_out}
use Rattle.fl_sql_tables.proofs.SetLemmas.{with_none}
use Rattle.fl_sql_tables.specs.Spelling.{row_of, whole_in}
use Rattle.fl_sql_tables.specs.Failing.{IsFault, RunsOut, IsRefused, FailsToRaise, FailsToPut, FailsToSave}
use Rattle.fl_sql_tables.proofs.BootLemmas.{shown_self, selects_self}
use Rattle.fl_sql_tables.proofs.Texts.{self_query, ops_query, select_self_is, select_ops_is, plain_1, plain_3, plain_4, plain_5, unlisted_3, unlisted_5, raise_boot_is, insert_op_is}

-- the text is one statement, with so many parameters
abbrev pub IsWhole : List ℕ → ℕ → Result Compiled CompileError → Type 0
IsWhole sql count (Ok c) = (c.tail ≡ length sql) × (length c.names ≡ count)
IsWhole sql count (Err e) = ⊥

pub whole_self : IsWhole select_self_text 0 (understood keeper_schema select_self_text)
unfolding understood everything
whole_self = (refl, refl)

whole_ops : IsWhole select_ops_text 0 (understood keeper_schema select_ops_text)
unfolding understood everything
whole_ops = (refl, refl)

pub whole_raise : IsWhole raise_boot_text 1 (understood keeper_schema raise_boot_text)
unfolding understood everything
whole_raise = (refl, refl)

pub whole_insert : IsWhole insert_op_text 3 (understood keeper_schema insert_op_text)
unfolding understood everything
whole_insert = (refl, refl)

-- a query that is refused only where the limit is met
abbrev pub IsReadAlways : Command → Type 0
IsReadAlways command = (limit : Option ℕ) (trees : Trees) (e : Error) → RefusesToRead limit command (record { schema = keeper_schema; trees = trees }) [] e
    → (e ≡ SqliteFailure code.OperationInterrupted) × IsSome limit

self_accepted : accepts_program keeper_schema [] self_query [] ≡ true
unfolding understood everything
self_accepted = refl

-- one table is read, nothing is summed
reads_always : (query : Query) (names : List (List ℕ)) → accepts_program keeper_schema [] query [] ≡ true → ((trees : Trees) → ¬ QueryOverflows query (overlay trees []) [])
    → IsReadAlways (Select (record { lets = []; body = query }) names)
reads_always query names accepted never limit trees e (inl h) = absurd (let wrong : true ≡ false = sym accepted ∙ h.1 in cc)
reads_always query names accepted never limit trees e (inr (inl h)) = absurd (never trees h.1)
reads_always query names accepted never limit trees e (inr (inr h)) = h

self_never : (trees : Trees) → ¬ QueryOverflows self_query (overlay trees []) []
self_never trees (inl over) = over
self_never trees (inr over) = over.4

pub read_self : IsReadAlways (command_of (understood keeper_schema select_self_text))
read_self = subst IsReadAlways (sym select_self_is) (reads_always self_query (codes "node" ∷ codes "boot" ∷ codes "format" ∷ []) self_accepted self_never)

ops_accepted : accepts_program keeper_schema [] ops_query [] ≡ true
unfolding understood everything
ops_accepted = refl

ops_never : (trees : Trees) → ¬ QueryOverflows ops_query (overlay trees []) []
ops_never trees (inl over) = over
ops_never trees (inr over) = over.4

read_ops : IsReadAlways (command_of (understood keeper_schema select_ops_text))
read_ops = subst IsReadAlways (sym select_ops_is) (reads_always ops_query (codes "node" ∷ codes "seq" ∷ codes "bytes" ∷ []) ops_accepted ops_never)

-- the store failed: that is a fault, or the write was too big
pub fails_fault : (old new : State) (too_big : Type 0) (e : Error) → IsTrue old.is_open → Fails old new too_big e → IsFault old new e ⊎ too_big
fails_fault old new too_big e is_open h = by_cause h.0 h.1 h.2
  where
    by_cause : (cause : StoreError) → e ≡ store_error cause → HasCause old new too_big cause → IsFault old new e ⊎ too_big
    by_cause OutOfMemory is has = inl (inl is)
    by_cause Io is has = inl (inr (inl (ap is_disk_error is, has)))
    by_cause Corrupt is has = inl (inr (inl (ap is_disk_error is, has)))
    by_cause Full is has = inl (inr (inl (ap is_disk_error is, has)))
    by_cause Broken is has = absurd (let wrong : false ≡ true = sym has ∙ is_open in cc)
    by_cause Unstorable is has = inr has

pub fails_alone : (old new : State) (e : Error) → IsTrue old.is_open → Fails old new ⊥ e → IsFault old new e
fails_alone old new e is_open h = elim (fails_fault old new ⊥ e is_open h) [ inl it ↦ it | inr none ↦ absurd none ]

module _ (schema : Schema) (sql : List ℕ) (params : Row) (old new : State) (has : old.now.schema ≡ schema) (is_open : IsTrue old.is_open)
    (plain : IsPlain (understood schema sql)) (whole : IsWhole sql (length params) (understood schema sql)) where
  -- it is a statement
  is_statement : (e : Error) → ¬ IsNoStatement old sql params e
  is_statement e (inl h) = subst IsPlain (ap (λ s. understood s sql) (sym has) ∙ h.1) plain
  is_statement e (inr h) =
      let known : understood schema sql ≡ Ok h.0 = ap (λ s. understood s sql) (sym has) ∙ h.1 in
      let bare = subst IsPlain known plain in
      let one = subst (IsWhole sql (length params)) known whole in
      elim h.2 [
        | inl more ↦ more.0 (omega (arith, one.0))
        | inr (inl other) ↦ other.0 (sym one.1)
        | inr (inr timed) ↦ timed.0 bare.1
      ]

  not_run_fails : (e : Error) → IsNotRun old new sql params e → Fails old new ⊥ e
  unfolding IsNotRun
  not_run_fails e (inl h) = absurd (is_statement e h.0)
  not_run_fails e (inr h) = h

  pub not_run_fault : (e : Error) → IsNotRun old new sql params e → IsFault old new e
  not_run_fault e h = fails_alone old new e is_open (not_run_fails e h)

-- why a query is not answered: the store failed, or the limit was met
query_cause : (sql : List ℕ) (old new : State) → old.now.schema ≡ keeper_schema → IsTrue old.is_open → IsPlain (understood keeper_schema sql) → IsWhole sql 0 (understood keeper_schema sql)
    → reads_listing keeper_schema sql ≡ false → IsReadAlways (command_of (understood keeper_schema sql)) → (e : Error) → FailsToQuery sql [] old new e
    → Fails old new ⊥ e ⊎ ((e ≡ SqliteFailure code.OperationInterrupted) × IsSome old.step_limit)
unfolding FailsToQuery
query_cause sql old new has is_open plain whole unlisted always e (inl h) = inl (not_run_fails keeper_schema sql [] old new has is_open plain whole e h)
query_cause sql old new has is_open plain whole unlisted always e (inr h) =
    let known = sym h.1.is ∙ ap (λ s. understood s sql) has in
    let bare = subst IsPlain (sym known) plain in
    let it = rw (bare.0, bare.1, append-nil []) at h.2 in
    let db : it.0 ≡ old.now = subst (λ b. IsSourceOf b old.now it.0) (ap (λ s. reads_listing s sql) has ∙ unlisted) it.1 in
    let here : it.0 ≡ record { schema = keeper_schema; trees = old.now.trees } = db ∙ ap (λ s. record { schema = s; trees = old.now.trees }) has in
    inr (always old.step_limit old.now.trees e (subst₂ (λ k d. RefusesToRead old.step_limit k d [] e) (ap command_of known) here it.2))

pub query_fault : (sql : List ℕ) (old new : State) → old.now.schema ≡ keeper_schema → IsTrue old.is_open → IsPlain (understood keeper_schema sql) → IsWhole sql 0 (understood keeper_schema sql)
    → reads_listing keeper_schema sql ≡ false → IsReadAlways (command_of (understood keeper_schema sql)) → (e : Error) → FailsToQuery sql [] old new e → IsFault old new e
query_fault sql old new has is_open plain whole unlisted always e h = elim (query_cause sql old new has is_open plain whole unlisted always e h) [
  | inl fails ↦ fails_alone old new e is_open fails
  | inr limited ↦ inr (inr limited)
]

-- for want of memory the transaction is undone
pub query_out : (sql : List ℕ) (old new : State) → old.now.schema ≡ keeper_schema → IsTrue old.is_open → IsPlain (understood keeper_schema sql) → IsWhole sql 0 (understood keeper_schema sql)
    → reads_listing keeper_schema sql ≡ false → IsReadAlways (command_of (understood keeper_schema sql)) → (e : Error) → FailsToQuery sql [] old new e
    → e ≡ SqliteFailure code.OutOfMemory → RunsOut old new
query_out sql old new has is_open plain whole unlisted always e h is = elim (query_cause sql old new has is_open plain whole unlisted always e h) [
  | inl fails ↦ runs_out old new fails.3
  | inr limited ↦ absurd (let wrong : SqliteFailure code.OutOfMemory ≡ SqliteFailure code.OperationInterrupted = sym is ∙ limited.0 in cc)
]

-- the operations are not shown
pub ops_fails : (old new : State) → old.now.schema ≡ keeper_schema → IsTrue old.is_open → (e : Error) → FailsToQuery select_ops_text [] old new e
    → IsFault old new e × (e ≡ SqliteFailure code.OutOfMemory → RunsOut old new)
ops_fails old new has is_open e h = (
  query_fault select_ops_text old new has is_open plain_3 whole_ops unlisted_3 read_ops e h,
  query_out select_ops_text old new has is_open plain_3 whole_ops unlisted_3 read_ops e h,
)

more_before : (a b c : ℕ) → a ≤ b → MoreFaults b c → MoreFaults a c
more_before a b c le h = omega (arith, h)

more_after : (a b c : ℕ) → b ≤ c → MoreFaults a b → MoreFaults a c
more_after a b c le h = omega (arith, h)

-- a fault on the way is one of the whole
pub fault_within : (a b c d : State) (e : Error) → a.faults ≤ b.faults → c.faults ≤ d.faults → b.step_limit ≡ a.step_limit → IsFault b c e → IsFault a d e
fault_within a b c d e first last limit (inl h) = inl h
fault_within a b c d e first last limit (inr (inl h)) = inr (inl (h.0, more_after a.faults c.faults d.faults last (more_before a.faults b.faults c.faults first h.1)))
fault_within a b c d e first last limit (inr (inr h)) = inr (inr (h.0, subst IsSome limit h.1))

-- ---- the row of the node itself

pub row_fault : (old new : State) (number boot : ℕ) → old.now.schema ≡ keeper_schema → IsTrue old.is_open → HasSelf number boot (old.now.trees 0)
    → (e : Error) → QueriesRow select_self_text [] old new (Err e) → IsFault old new e
unfolding QueriesRow
row_fault old new number boot has is_open one e (inl h) = query_fault select_self_text old new has is_open plain_5 whole_self unlisted_5 read_self e h
row_fault old new number boot has is_open one e (inr h) = absurd (let wrong = selects_self old new one.0 number boot [] has one.1 h.1 in cc)

pub row_out : (old new : State) (number boot : ℕ) → old.now.schema ≡ keeper_schema → IsTrue old.is_open → HasSelf number boot (old.now.trees 0)
    → (e : Error) → QueriesRow select_self_text [] old new (Err e) → e ≡ SqliteFailure code.OutOfMemory → RunsOut old new
unfolding QueriesRow
row_out old new number boot has is_open one e (inl h) = query_out select_self_text old new has is_open plain_5 whole_self unlisted_5 read_self e h
row_out old new number boot has is_open one e (inr h) = absurd (let wrong = selects_self old new one.0 number boot [] has one.1 h.1 in cc)

-- a boot in its range is read
pub boot_there : (P : Error → Type 0) (r : Result ℕ Error) (row : Row) (f : Format) (number boot : ℕ) → boot < 4294967296 → row ≡ shown_self f number boot
    → IfErr r (λ _. length row ≡ 3 → ¬ ((n : ℕ) × (n < 4294967296) × (whole_in (column row 1) ≡ Some n))) → IfErr r P
boot_there P (Ok x) row f number boot low is out = tt
boot_there P (Err e) row f number boot low is out = absurd (out (ap length is) (boot, low, ap (λ r. whole_in (column r 1)) is))

-- ---- a statement that writes

-- it changes rows, or makes or drops a table, and neither begins nor ends anything
abbrev pub writes : Command → Bool
writes (Insert at from) = true
writes (Update at q) = true
writes CreateTable = true
writes (DropTable at) = true
writes _ = false

not_written : (command other : Command) → writes command ≡ true → writes other ≡ false → ¬ (command ≡ other)
not_written command other h none is = absurd (let wrong : true ≡ false = sym h ∙ ap writes is ∙ none in cc)

is_placed : (s : State) (command : Command) (e : Error) → writes command ≡ true → ¬ IsMisplaced s command e
is_placed s command e h (inl (is, inl it)) = not_written command _ h refl it.0
is_placed s command e h (inl (is, inr (inl it, out))) = not_written command _ h refl it
is_placed s command e h (inl (is, inr (inr it, out))) = not_written command _ h refl it
is_placed s command e h (inr (is, name, inl it, none)) = not_written command _ h refl it
is_placed s command e h (inr (is, name, inr it, none)) = not_written command _ h refl it

stays_inside : (s : State) (command : Command) → writes command ≡ true → ¬ Escapes 0 s command
stays_inside s command h (inl (inl it)) = not_written command _ h refl it
stays_inside s command h (inl (inr it)) = not_written command _ h refl it
stays_inside s command h (inr (name, inl it, held)) = not_written command _ h refl it
stays_inside s command h (inr (name, inr it, held)) = not_written command _ h refl it

shows_none : (c : Compiled) → writes c.command ≡ true → c.returning ≡ None → shows_rows false c ≡ false
shows_none c h none = by_command c.command h none
  where
    by_command : (command : Command) → writes command ≡ true → c.returning ≡ None → (is_query command || (true && (is_pragma command || is_some c.returning))) ≡ false
    by_command (Insert at from) h none = rw none
    by_command (Update at q) h none = rw none
    by_command CreateTable h none = rw none
    by_command (DropTable at) h none = rw none
    by_command _ h none = absurd cc

module _ (schema : Schema) (sql : List ℕ) (params : Row) (old new : State) (has : old.now.schema ≡ schema) (is_open : IsTrue old.is_open)
    (plain : IsPlain (understood schema sql)) (whole : IsWhole sql (length params) (understood schema sql))
    (writing : writes (command_of (understood schema sql)) ≡ true) where
  abbrev Fault : Error → Type 0
  Fault e = IsFault old new e ⊎ IsRefused old old.now sql params (understood schema sql)

  run_fault : (e : Error) → ExecutesIn false sql params old new (Err e) → Fault e
  unfolding ExecutesIn
  run_fault e (inl h) = inl (not_run_fault schema sql params old new has is_open plain whole e h)
  run_fault e (inr h) =
      let known : understood schema sql ≡ Ok h.0 = ap (λ s. understood s sql) (sym has) ∙ h.1.is in
      let bare = subst IsPlain known plain in
      let change : writes h.0.command ≡ true = ap (λ u. writes (command_of u)) (sym known) ∙ writing in
      let ran : RunsCommand old new sql h.0 params (Err e) = rw (shows_none h.0 change bare.0, bare.1, append-nil params) at h.2 in
      let refused = λ (it : (why : Option Error) × Does old.step_limit (mode_of old) params old.now (text_of sql h.0) h.0.returning h.0.command (Err why)).
      subst (IsRefused old old.now sql params) (sym known) (rw bare.0 at it) in
      elim ran [
        | inl (inl misplaced, same) ↦ absurd (is_placed old h.0.command e change misplaced)
        | inl (inr told, same) ↦ inr (refused (Some e, told.1))
        | inr failed ↦ elim (fails_fault old new _ e is_open failed) [ inl it ↦ inl it | inr big ↦ inr (refused (None, big)) ]
      ]

  pub inside_fault : (e : Error) → ExecutesInside 0 sql params old new (Err e) → Fault e
  unfolding EndsScope
  inside_fault e (inl h) = run_fault e h.0
  inside_fault e (inr h) =
      let it = h.0 in
      let known : understood schema sql ≡ Ok it.0 = ap (λ s. understood s sql) (sym has) ∙ it.1.is in
      absurd (stays_inside old it.0.command (ap (λ u. writes (command_of u)) (sym known) ∙ writing) it.2)

writes_raise : writes (command_of (understood keeper_schema raise_boot_text)) ≡ true
writes_raise = ap writes raise_boot_is

writes_insert : writes (command_of (understood keeper_schema insert_op_text)) ≡ true
writes_insert = ap writes insert_op_is

pub raise_fault : (old new : State) (boot : ℕ) → old.now.schema ≡ keeper_schema → IsTrue old.is_open
    → (e : Error) → ExecutesInside 0 raise_boot_text (Int (pos boot) ∷ []) old new (Err e) → FailsToRaise boot old new e
raise_fault old new boot has is_open = inside_fault keeper_schema raise_boot_text (Int (pos boot) ∷ []) old new has is_open plain_4 whole_raise writes_raise

pub put_fault : (old new : State) (op : Op) → old.now.schema ≡ keeper_schema → IsTrue old.is_open
    → (e : Error) → ExecutesInside 0 insert_op_text (row_of op) old new (Err e) → FailsToPut op old new e
put_fault old new op has is_open = inside_fault keeper_schema insert_op_text (row_of op) old new has is_open plain_1 whole_insert writes_insert

-- the commit of a transaction that is under way
pub commit_fault : (old new : State) (e : Error) → IsTrue old.is_open → IsTrue old.in_transaction → FailsToCommit old new e → IsFault old new e
commit_fault old new e is_open inside (inl h) = fails_alone old new e is_open h
commit_fault old new e is_open inside (inr h) = absurd (let wrong : false ≡ true = sym h.1 ∙ inside in cc)

-- what `?` hands on
pub handed_on : {T E : Type 0} (r : Result T E) (e : E) (P : E → Type 0) → IsErrAnd r (λ f. f ≡ e) → P e → IfErr r P
handed_on (Ok x) e P is p = absurd is
handed_on (Err f) e P is p = subst P (sym is) p

-- ---- operations

-- no row more
none_more : (rows : List Row) → IsPermutation rows (rows ++ [])
none_more rows = subst (IsPermutation rows) (sym (append-nil rows)) (IsPermutation-refl rows)

pub adds_none : (db : Database) → db.schema ≡ keeper_schema → AddsOps [] db db
adds_none db ours = record { schema = ours; itself = refl; catalog = refl; rows = none_more (map shown_op (db.trees 1)); added = sym (with_none (ops_in (db.trees 1))) }

-- the next operation is not put, after those before it
pub save_fault : (old mid new : State) (ops : List Op) (i : ℕ) (d : Op) → i < length ops → (i ≡ 0 → mid ≡ old) → (0 < i → PutsIn (take i ops) old mid)
    → IsOurs old → IsTrue old.is_open → old.faults ≤ mid.faults → mid.step_limit ≡ old.step_limit → (e : Error) → FailsToPut (get_or ops i d) mid new e → FailsToSave ops old new e
save_fault old mid new ops i d within first so_far ours is_open counts limit e (inl h) = inl (fault_within old mid new new e counts (omega arith) limit h)
save_fault old mid new ops i d within first so_far ours is_open counts limit e (inr h) =
    let split : ops ≡ take i ops ++ get_or ops i d ∷ drop (suc i) ops = sym (take-append-drop i ops) ∙ ap (λ l. take i ops ++ l) (drop-cons ops i d within) in
    let added : AddsOps (take i ops) old.now mid.now = elim (zero_or i) [
      | inl start ↦
          subst₂ (λ xs (m : State). AddsOps xs old.now m.now) (sym (ap (λ n. take n ops) start)) (sym (first start))
          (adds_none old.now (ours is_open))
      | inr more ↦ (so_far more).added
    ] in
    let refused = subst (λ limit. IsRefused (record mid { step_limit = limit }) mid.now insert_op_text (row_of (get_or ops i d)) (understood keeper_schema insert_op_text)) limit h in
    inr (take i ops, get_or ops i d, drop (suc i) ops, split, mid.now, added, refused)

-- and within more calls
pub save_within : (a b c d : State) (ops : List Op) (e : Error) → b.now ≡ a.now → a.faults ≤ b.faults → c.faults ≤ d.faults → b.step_limit ≡ a.step_limit → FailsToSave ops b c e → FailsToSave ops a d e
save_within a b c d ops e same first last limit (inl h) = inl (fault_within a b c d e first last limit h)
save_within a b c d ops e same first last limit (inr h) =
    inr (
      h.0,
      h.1,
      h.2,
      h.3,
      h.4,
      subst (λ now. AddsOps h.0 now h.4) same h.5,
      subst (λ limit. IsRefused (record b { step_limit = limit }) h.4 insert_op_text (row_of h.1) (understood keeper_schema insert_op_text)) limit h.6,
    )

-- where it is put, the transaction goes on over the same tables
pub goes_on : (old mid : State) (xs : List Op) (i : ℕ) → (i ≡ 0 → mid ≡ old) → (0 < i → PutsIn xs old mid) → IsTrue old.in_transaction → IsOurs old → IsTrue old.is_open
    → IsTrue mid.in_transaction × IsOurs mid × IsTrue mid.is_open
goes_on old mid xs i first so_far inside ours is_open = elim (zero_or i) [
  | inl start ↦ subst (λ (m : State). IsTrue m.in_transaction × IsOurs m × IsTrue m.is_open) (sym (first start)) (inside, ours, is_open)
  | inr more ↦ let before = so_far more in (before.shown.mode, (λ _. before.added.schema), before.shown.is_open)
]
