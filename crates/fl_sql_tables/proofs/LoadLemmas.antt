-- Operations that are loaded row by row.
use Rattle.std.proofs.Common.{◌≡◌, ◌≢◌, inl, inr, ◌∙◌, refl, sym, ap, subst, ℕ, ◌≤◌, ◌<◌, ◌+◌, length-append, Bool, true, false, List, [], ◌∷◌, ◌++◌, map, length, Option, Some, None, arith, ◌||◌}
use Rattle.std.specs.List.Sorted.{IsPermutation}
use Rattle.std.proofs.lemmas.List.{map-append, length-map, length_push}
use Rattle.std.proofs.lemmas.Bool.{or_cases}
use Rattle.std.specs.Ordering.{eq_by_cmp, is_eq}
use Rattle.std.specs.declared.cmp.Ordering.{Ordering}
use Rattle.std.specs.declared.cmp.Ordering.TheVariants.{Less, Equal, Greater}
use Rattle.sqlite.specs.Order.{Row}
use Rattle.sqlite.specs.Store.{Ghosts}
use Rattle.sqlite.specs.Held.{Held, state}
use Rattle.sqlite.specs.Given.{HasGiven, Advances, FailsToAdvance}
use Rattle.sqlite.specs.State.{State, IsUnchanged, Survives}
use Rattle.sqlite.specs.declared.error.Error.{Error}
use Rattle.fl_sql_tables.specs.Failing.{FailsToLoad}
use Rattle.fl_sql_tables.proofs.FailLemmas.{ops_fails, fault_within}
use Rattle.fl_sql_tables.proofs.QueryLemmas.{runs_out_then, kept_if_same}
use Rattle.fl_labels.specs.SetBy.{SetBy, In, empty, insert, of_list, contains, contains-insert, contains-of_list}
use Rattle.fl_ops.specs.declared.op.Op.{Op}
use Rattle.fl_ops.specs.OpOrder.{op_cmp}
use Rattle.fl_ops.specs.OpLaws.{op_total, op_exact, op_equivalence}
use Rattle.fl_store.specs.Kept.{HasNamesOnce}
use Rattle.fl_sql_tables.specs.Tables.{keeper_schema, select_ops_text}
use Rattle.fl_sql_tables.specs.Spelling.{op_of}
use Rattle.fl_sql_tables.specs.Stored.{op_in, ops_in, shown_op, HasBadRow, HasReadGood}
use Rattle.fl_sql_tables.proofs.SetLemmas.{of_list_push, has}
use Rattle.fl_sql_tables.proofs.OpLemmas.{AreRows, spells, contains_op, any_mapped, any_read, loaded}
use Rattle.fl_sql_tables.proofs.Selects.{selects_ops}
use Rattle.fl_sql_tables.proofs.Texts.{select_ops_is}
use Rattle.sqlite.proofs.Callers.{EndsIn, begins_shown, given_begin, command_of}
use Rattle.sqlite.specs.State.{IsStatement}
use Rattle.sqlite.specs.Listing.{understood, reads_listing, IsSourceOf}
use Rattle.sqlite.specs.Clock.{timed}
use Rattle.sqlite.specs.Effect.{Database}
use Rattle.sqlite_resolve.specs.declared.compiled.Compiled.{Compiled}
use Rattle.std.specs.List.{list_any}
use Rattle.std.proofs.lemmas.List.Folds.{list_any-append}
use Rattle.std.proofs.lemmas.List.Sorted.{list_any-IsPermutation, length_permutation}
use Rattle.std.specs.Prelude.{is_none, is_some, is_err, IfNone, IfSome, OnOk, Result, Ok, Err}

same_op : (a b : Op) → eq_by_cmp op_cmp a b ≡ true → a ≡ b
same_op a b h = op_exact a b (is_equal (op_cmp a b) h)
  where
    is_equal : (o : Ordering) → is_eq o ≡ true → o ≡ Equal
    is_equal Less e = absurd (cc)
    is_equal Equal e = refl
    is_equal Greater e = absurd (cc)

-- the query of the operations has given the rows of these, so many
pub record GivenOps {S : Type 0} (g : Ghosts S) (h : Held S) (ops : SetBy op_cmp) (count : ℕ) : Type 0 where
  pub list : List Op
  pub rows : List Row
  pub are : AreRows rows list
  pub counted : length rows ≡ count
  pub given : HasGiven g select_ops_text [] h rows
  pub ops_are : ops ≡ of_list list

pub given_none : {S : Type 0} (g : Ghosts S) (h : Held S) (ops : SetBy op_cmp) → HasGiven g select_ops_text [] h [] → ops ≡ empty → GivenOps g h ops 0
given_none g h ops given is = record { list = []; rows = []; are = refl; counted = refl; given = given; ops_are = is }

-- one row and one operation more
pub are_more : (rows : List Row) (list : List Op) (row : Row) (op : Op) → AreRows rows list → op_of row ≡ Some op → AreRows (rows ++ row ∷ []) (list ++ op ∷ [])
are_more rows list row op are is =
    map-append op_of rows (row ∷ []) ∙ (λ i. are i ++ is i ∷ []) ∙ sym (map-append Some list (op ∷ []))

pub given_more : {S : Type 0} (g : Ghosts S) (old new : Held S) (ops more : SetBy op_cmp) (count : ℕ) (op : Op) → GivenOps g old ops count
    → (row : Row) × Advances g old new (Some row) × (op_of row ≡ Some op) → more ≡ insert ops op → GivenOps g new more (count + 1)
given_more g old new ops more count op h step is = record {
  list = h.list ++ op ∷ [];
  rows = h.rows ++ step.0 ∷ [];
  are = are_more h.rows h.list step.0 op h.are step.2;
  counted = length_push h.rows step.0 ∙ ap (λ n. n + 1) h.counted;
  given = step.1 select_ops_text [] h.rows h.given;
  ops_are = is ∙ ap (λ s. insert s op) h.ops_are ∙ sym (of_list_push h.list op);
}

-- names still differ with an operation whose name no other has
pub once_with : (ops more : SetBy op_cmp) (op : Op) → HasNamesOnce ops → ((other : Op) → In ops other → other.name ≡ op.name → other ≡ op) → more ≡ insert ops op → HasNamesOnce more
once_with ops more op once alone is = subst HasNamesOnce (sym is) (λ a b has_a has_b same.
    elim (or_cases _ _ (sym (contains-insert op_total ops op a) ∙ has_a)) [
      | inl a_is ↦ elim (or_cases _ _ (sym (contains-insert op_total ops op b) ∙ has_b)) [
        | inl b_is ↦ same_op a op a_is ∙ sym (same_op b op b_is)
        | inr old_b ↦ same_op a op a_is ∙ sym (alone b old_b (sym same ∙ ap (λ (o : Op). o.name) (same_op a op a_is)))
      ]
      | inr old_a ↦ elim (or_cases _ _ (sym (contains-insert op_total ops op b) ∙ has_b)) [
        | inl b_is ↦ alone a old_a (same ∙ ap (λ (o : Op). o.name) (same_op b op b_is)) ∙ sym (same_op b op b_is)
        | inr old_b ↦ once a b old_a old_b same
      ]
    ])

-- ---- what was given stands in the table

module _ {S : Type 0} (g : Ghosts S) (h : Held S) (has_schema : (state g h).now.schema ≡ keeper_schema) (same : IsUnchanged (state g h) (state g h)) where
  ends : (c : Compiled) (db : Database) (it : IsStatement (state g h) select_ops_text [] c) → IsSourceOf (reads_listing (state g h).now.schema select_ops_text) (state g h).now db → EndsIn c.command db (timed [] c.formats it.now)
  ends c db it source =
      let command = ap command_of (sym it.is ∙ ap (λ s. understood s select_ops_text) has_schema) ∙ select_ops_is in
      subst (λ k. EndsIn k db (timed [] c.formats it.now)) (sym command) tt

  -- they begin what stands there, in some order
  pub stand_there : (rows : List Row) → HasGiven g select_ops_text [] h rows → (tail : List Row) × IsPermutation (map shown_op ((state g h).now.trees 1)) (rows ++ tail)
  stand_there rows given =
      let shown = begins_shown select_ops_text [] (state g h) (state g h) rows (given_begin g select_ops_text [] h rows given) same ends in
      (shown.0, selects_ops (state g h) (state g h) (rows ++ shown.0) has_schema shown.1)

pub true_before : (a b : Bool) → a ≡ true → (a || b) ≡ true
true_before a b h = rw h refl

pub true_after : (a b : Bool) → b ≡ true → (a || b) ≡ true
true_after true b h = refl
true_after false b h = h

-- a row that spells nothing, among those that stand in the table
pub bad_there : (table rows tail : List Row) (row : Row) → IsPermutation (map shown_op table) ((rows ++ row ∷ []) ++ tail) → op_of row ≡ None → HasBadRow table
bad_there table rows tail row order none =
    let bad : Row → Bool = λ r. is_none (op_of r) in
    let last : list_any bad (row ∷ []) ≡ true = ap (λ o. is_none o || false) none in
    let given : list_any bad (rows ++ row ∷ []) ≡ true = list_any-append bad rows (row ∷ []) ∙ true_after _ _ last in
    let shown : list_any bad ((rows ++ row ∷ []) ++ tail) ≡ true = list_any-append bad (rows ++ row ∷ []) tail ∙ true_before _ _ given in
    let is : list_any (λ r. is_none (op_in r)) table ≡ true = sym (any_mapped bad shown_op table) ∙ list_any-IsPermutation bad _ _ order ∙ shown in
    inl is

-- an operation whose row is among those is the table's
in_table : (table rows tail : List Row) (ops : List Op) (q : Op) → AreRows rows ops → IsPermutation (map shown_op table) (rows ++ tail) → has q ops ≡ true → In (ops_in table) q
in_table table rows tail ops q are order is =
    let spell : Row → Bool = λ r. spells q (op_of r) in
    contains_op table q
    ∙ sym (any_mapped spell shown_op table)
    ∙ list_any-IsPermutation spell _ _ order
    ∙ list_any-append spell rows tail
    ∙ true_before _ _ (any_read (spells q) rows ops are ∙ is)

-- two operations of one name, among those that stand in the table
pub clash_there : (table rows tail : List Row) (ops : SetBy op_cmp) (list : List Op) (op other : Op) → ops ≡ of_list list → AreRows rows (list ++ op ∷ [])
    → IsPermutation (map shown_op table) (rows ++ tail) → In ops other → other.name ≡ op.name → other ≢ op → HasBadRow table
clash_there table rows tail ops list op other is are order there named differs =
    let old : has other list ≡ true = sym (contains-of_list op_total list other) ∙ ap (λ s. contains s other) (sym is) ∙ there in
    let both = λ (q : Op). list_any-append (eq_by_cmp op_cmp q) list (op ∷ []) in
    let own : eq_by_cmp op_cmp op op ≡ true = op_equivalence.refl op in
    let a = in_table table rows tail (list ++ op ∷ []) other are order (both other ∙ true_before _ _ old) in
    let b = in_table table rows tail (list ++ op ∷ []) op are order (both op ∙ true_after _ _ (true_before _ _ own)) in
    inr (λ once. differs (once other op a b named))

none_none : (ops : List Op) → list_any (λ op. is_none (Some op)) ops ≡ false
none_none [] = refl
none_none (op ∷ ops) = none_none ops

-- where what was given is the table, it has no bad row
pub none_bad : (table rows : List Row) (list : List Op) → AreRows rows list → IsPermutation (map shown_op table) rows → HasNamesOnce (ops_in table) → ¬ HasBadRow table
none_bad table rows list are order once (inl bad) =
    let test : Row → Bool = λ r. is_none (op_of r) in
    let good : list_any (λ r. is_none (op_in r)) table ≡ false =
    sym (any_mapped test shown_op table) ∙ list_any-IsPermutation test _ _ order ∙ any_read is_none rows list are ∙ none_none list in
    absurd (let wrong : false ≡ true = sym good ∙ bad in cc)
none_bad table rows list are order once (inr twice) = twice once

-- a look that found nothing
pub none_then : {X : Type 0} (o : Option X) (P : Type 0) → is_some o ≡ false → IfNone o P → P
none_then None P h p = p
none_then (Some x) P h p = absurd (cc)

-- and one that found something
pub some_then : {X : Type 0} (o : Option X) (P : X → Type 0) → is_some o ≡ true → IfSome o P → (x : X) × P x
some_then None P h p = absurd (cc)
some_then (Some x) P h p = (x, p)

unchanged_still : (a b : State) → IsUnchanged a b → IsUnchanged b b
unchanged_still a b h = (
  record { was_open = h.0.is_open; is_open = h.0.is_open; now_is = refl; committed_is = refl; mode = refl },
  record { changes = refl; last_rowid = refl },
  refl,
)

-- rows of a table that were given are as many as it has at most
pub rows_within : (table tail rows : List Row) → IsPermutation (map shown_op table) (rows ++ tail) → length rows ≤ length table
rows_within table tail rows order =
    let all : length (rows ++ tail) ≡ length (map shown_op table) = length_permutation _ _ order in
    let parts : length (rows ++ tail) ≡ length rows + length tail = length-append rows tail in
    let here : length (map shown_op table) ≡ length table = length-map table shown_op in
    omega (arith, all, parts, here)

module _ {S : Type 0} (g : Ghosts S) (old : State) (mid new : Held S) (ops : SetBy op_cmp) (count : ℕ) (ours : old.now.schema ≡ keeper_schema)
    (first : IsUnchanged old (state g mid)) (so_far : GivenOps g mid ops count) where
  -- the table has at least as many rows as were given
  pub has_rows : count ≤ length (old.now.trees 1)
  has_rows =
      let there = stand_there g mid (ap (λ d. d.schema) first.0.now_is ∙ ours) (unchanged_still old (state g mid) first) so_far.rows so_far.given in
      let within : length so_far.rows ≤ length ((state g mid).now.trees 1) = rows_within _ there.0 so_far.rows there.1 in
      subst (λ n. n ≤ length (old.now.trees 1)) so_far.counted (subst (λ d. length so_far.rows ≤ length (d.trees 1)) first.0.now_is within)

  -- what was given is good, and some of it was given
  pub has_read_good : HasNamesOnce ops → 0 < count → HasReadGood (old.now.trees 1)
  has_read_good once some =
      let there = stand_there g mid (ap (λ d. d.schema) first.0.now_is ∙ ours) (unchanged_still old (state g mid) first) so_far.rows so_far.given in
      let many : length so_far.list ≡ length so_far.rows =
      sym (length-map so_far.list Some) ∙ ap length (sym so_far.are) ∙ length-map so_far.rows op_of in
      let counted : length so_far.rows ≡ count = so_far.counted in (
        so_far.list,
        omega (arith, many, counted, some),
        record {
          shown = so_far.rows;
          rest = there.0;
          among = subst (λ d. IsPermutation (map shown_op (d.trees 1)) (so_far.rows ++ there.0)) first.0.now_is there.1;
          spelled = so_far.are;
          once = subst HasNamesOnce so_far.ops_are once;
        },
      )

  -- at the end, the operations are those of the table, which has no bad row
  pub ends_whole : HasNamesOnce ops → Advances g mid new None → (ops ≡ ops_in (old.now.trees 1)) × ¬ HasBadRow (old.now.trees 1)
  ends_whole once step =
      let order = selects_ops (state g mid) (state g new) _ (ap (λ d. d.schema) first.0.now_is ∙ ours) (step select_ops_text [] so_far.rows so_far.given) in
      let here = subst (λ d. IsPermutation (map shown_op (d.trees 1)) so_far.rows) first.0.now_is order in
      let all : ops ≡ ops_in (old.now.trees 1) = so_far.ops_are ∙ loaded _ so_far.rows so_far.list so_far.are here in
      (all, none_bad _ so_far.rows so_far.list so_far.are here (subst HasNamesOnce all once))

  -- the next row is not given
  pub step_fails : Survives old (state g mid) (λ _. ⊥) → (e : Error) → FailsToAdvance g mid new e → FailsToLoad old (state g new) e
  step_fails so e fails =
      let failed = fails select_ops_text [] so_far.rows so_far.given in
      let here = ops_fails (state g mid) (state g new) (ap (λ d. d.schema) first.0.now_is ∙ ours) first.0.is_open e failed in (
        inl (fault_within old (state g mid) (state g new) (state g new) e so.counts (omega arith) so.limit here.0),
        λ is. runs_out_then old (state g mid) (state g new) (kept_if_same old (state g mid) first) (here.1 is),
      )

  module _ (second : IsUnchanged (state g mid) (state g new)) where
    now_same : (state g new).now ≡ old.now
    now_same = second.0.now_is ∙ first.0.now_is

    still_ours : (state g new).now.schema ≡ keeper_schema
    still_ours = ap (λ d. d.schema) now_same ∙ ours

    still : IsUnchanged (state g new) (state g new)
    still = unchanged_still (state g mid) (state g new) second

    -- a row that spells no operation is one of the table
    pub bad_step : (row : Row) → Advances g mid new (Some row) → op_of row ≡ None → HasBadRow (old.now.trees 1)
    bad_step row step none =
        let there = stand_there g new still_ours still _ (step select_ops_text [] so_far.rows so_far.given) in
        subst (λ d. HasBadRow (d.trees 1)) now_same (bad_there _ so_far.rows there.0 row there.1 none)

    -- an operation whose name another has makes the table bad
    pub clash_step : (op other : Op) → (row : Row) × Advances g mid new (Some row) × (op_of row ≡ Some op) → In ops other → other.name ≡ op.name → other ≢ op
        → HasBadRow (old.now.trees 1)
    clash_step op other step has_other named differs =
        let there = stand_there g new still_ours still _ (step.1 select_ops_text [] so_far.rows so_far.given) in
        let are = are_more so_far.rows so_far.list step.0 op so_far.are step.2 in
        subst (λ d. HasBadRow (d.trees 1)) now_same (clash_there _ (so_far.rows ++ step.0 ∷ []) there.0 ops so_far.list op other so_far.ops_are are there.1 has_other named differs)

-- a call that did not fail
pub ok_then : {T E : Type 0} (r : Result T E) (P : Type 0) → is_err r ≡ false → OnOk r P → P
ok_then (Ok x) P h p = p
ok_then (Err e) P h p = absurd (cc)
