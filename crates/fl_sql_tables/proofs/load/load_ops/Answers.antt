use Rattle.std.proofs.Common.{◌≡◌, ◌+◌, [], refl, sym, subst, rules, arith, inl, inr, ◌∙◌}
use Rattle.sqlite.specs.Held.{state}
use Rattle.sqlite.specs.Given.{IsRefused}
use Rattle.sqlite.specs.State.{HasCleanDisk, Survives, FailsToQuery, CommitsShowing, IsUnchanged}
use Rattle.sqlite.proofs.Callers.{begun_plain, unchanged_then}
use Rattle.fl_sql_tables.specs.Tables.{select_ops_text}
use Rattle.fl_sql_tables.proofs.Texts.{plain_3}
use Rattle.fl_sql_tables.proofs.StateLemmas.{clean_before, survives_on}
use Rattle.fl_sql_tables.proofs.QueryLemmas.{quiet_query, undone_query, plain_here}
use Rattle.fl_store.specs.Kept.{HasNamesOnce}
use Rattle.fl_sql_tables.proofs.SetLemmas.{once-empty}
use Rattle.fl_sql_tables.proofs.LoadLemmas.{given_none, given_more, once_with, none_then, some_then, ok_then, ends_whole, bad_step, clash_step, has_rows, has_read_good, step_fails}
use Rattle.fl_labels.specs.SetBy.{insert}
use Rattle.fl_sql_tables.specs.Failing.{FailsToLoad}
use Rattle.fl_sql_tables.proofs.FailLemmas.{ops_fails}
use Rattle.fl_sql_tables.proofs.load.load_ops.Goals as goal

pub returns-in-Err-clause-survives : goal.returns-in-Err-clause-survives
returns-in-Err-clause-survives g c =
    let old = state g.S.Store c.args.conn.now in
    let new = state g.S.Store c.query.follows.lender-at-none in
    let held = c.query.follows.holds-at-none in
    let kept : Survives old new (CommitsShowing select_ops_text [] old) = search rules in
    quiet_query _ _ old new c.args.number c.requires.serving plain_3 kept

pub returns-in-Err-clause-err : goal.returns-in-Err-clause-err
returns-in-Err-clause-err g c clean =
    let old = state g.S.Store c.args.conn.now in
    let new = state g.S.Store c.query.follows.lender-at-none in
    let held = c.query.follows.holds-at-none in
    let kept : Survives old new (CommitsShowing select_ops_text [] old) = search rules in
    let ready = c.requires.serving (clean_before old new _ kept clean) in
    let refused : IsRefused g.S.Store select_ops_text [] c.args.conn.now c.query.result c.query.follows.lender-at-none = search rules in
    let failed : FailsToQuery select_ops_text [] old new c.in-Err.error = rw c.in-Err.is at (refused.err clean) in
    undone_query _ _ old new ready.schema plain_3 _ ready.settled failed

pub rows-init : goal.rows-init
rows-init g c =
    let old = state g.S.Store c.args.conn.now in
    let new = state g.S.Store c.in-Ok.rows.conn.now in
    let quiet : Survives old new (λ _. ⊥) = quiet_query select_ops_text [] old new c.args.number c.requires.serving plain_3 c.in-Ok.ensures.survives in
    let begun = λ (clean : HasCleanDisk new).
    let ready = c.requires.serving (clean_before old new (λ _. ⊥) quiet clean) in
    begun_plain g.S.Store select_ops_text [] c.args.conn.now c.in-Ok.rows.conn.now (plain_here select_ops_text [] old new ready.schema plain_3) (c.in-Ok.ensures.begun clean) in
    record {
      same_reference = refl;
      mode = c.in-Ok.ensures.mode c.requires.idle;
      survives = quiet;
      same = λ clean. (begun clean).1;
      names = subst HasNamesOnce (sym c.new-ops.ensures) once-empty;
      given = λ clean. given_none g.S.Store c.in-Ok.rows.conn.now c.new-ops.result (begun clean).0 c.new-ops.ensures;
    }

pub rows-preserved : goal.rows-preserved
rows-preserved g c =
    let old = state g.S.Store c.args.conn.now in
    let mid = state g.S.Store c.rows.rows.conn.now in
    let new = state g.S.Store c.next_op.new.rows.conn.now in
    let before = λ (late : HasCleanDisk new). clean_before mid new _ c.next_op.ensures.survives late in
    let added : c.add.new.self ≡ insert c.rows.ops c.in-Ok-Found.op = ok_then c.add.result _ (sym c.is_err.ensures.value ∙ c.if-is_err.false) c.add.ensures.ok in
    record {
      same_reference = c.next_op.ensures.same_reference ∙ c.rows.invariant.same_reference;
      mode = c.next_op.ensures.mode c.rows.invariant.mode;
      survives = survives_on old mid new c.rows.invariant.survives c.next_op.ensures.survives;
      same = λ late. unchanged_then old mid new (c.rows.invariant.same (before late)) (c.in-Ok-Found.ensures.same late);
      names = once_with c.rows.ops _ c.in-Ok-Found.op c.rows.invariant.names (none_then c.clash.result _ (sym c.is_some.ensures ∙ c.if-is_some.false) c.clash.ensures.none) added;
      given = λ late. given_more g.S.Store c.rows.rows.conn.now c.next_op.new.rows.conn.now c.rows.ops _ c.rows._count c.in-Ok-Found.op (c.rows.invariant.given (before late)) (rw c.in-Ok-Found.field-0-is at (c.in-Ok-Found.ensures.ok late)) added;
    }

pub returns-in-Ok-End-clause-ok : goal.returns-in-Ok-End-clause-ok
returns-in-Ok-End-clause-ok g c clean =
    let old = state g.S.Store c.args.conn.now in
    let mid = state g.S.Store c.rows.rows.conn.now in
    let new = state g.S.Store c.next_op.new.rows.conn.now in
    let late : HasCleanDisk new = search rules in
    let before = clean_before mid new _ c.next_op.ensures.survives late in
    let ready = c.requires.serving (clean_before old mid _ c.rows.invariant.survives before) in
    (ends_whole g.S.Store old c.rows.rows.conn.now c.next_op.new.rows.conn.now c.rows.ops c.rows._count ready.schema (c.rows.invariant.same before) (c.rows.invariant.given before) c.rows.invariant.names
    (rw c.in-Ok-End.field-0-is at (c.in-Ok-End.ensures.ok late))).0

pub returns-in-Ok-End-clause-good : goal.returns-in-Ok-End-clause-good
returns-in-Ok-End-clause-good g c clean =
    let old = state g.S.Store c.args.conn.now in
    let mid = state g.S.Store c.rows.rows.conn.now in
    let new = state g.S.Store c.next_op.new.rows.conn.now in
    let late : HasCleanDisk new = search rules in
    let before = clean_before mid new _ c.next_op.ensures.survives late in
    let ready = c.requires.serving (clean_before old mid _ c.rows.invariant.survives before) in
    (ends_whole g.S.Store old c.rows.rows.conn.now c.next_op.new.rows.conn.now c.rows.ops c.rows._count ready.schema (c.rows.invariant.same before) (c.rows.invariant.given before) c.rows.invariant.names
    (rw c.in-Ok-End.field-0-is at (c.in-Ok-End.ensures.ok late))).1

pub returns-in-Err-clause-refuses : goal.returns-in-Err-clause-refuses
returns-in-Err-clause-refuses g c clean =
    let old = state g.S.Store c.args.conn.now in
    let new = state g.S.Store c.query.follows.lender-at-none in
    let held = c.query.follows.holds-at-none in
    let kept : Survives old new (CommitsShowing select_ops_text [] old) = search rules in
    let ready = c.requires.serving (clean_before old new _ kept clean) in
    let refused : IsRefused g.S.Store select_ops_text [] c.args.conn.now c.query.result c.query.follows.lender-at-none = search rules in
    let failed : FailsToQuery select_ops_text [] old new c.in-Err.error = rw c.in-Err.is at (refused.err clean) in
    let fails = ops_fails old new ready.schema ready.is_open _ failed in
    (inl fails.0, fails.1)

pub returns-in-Err-next_op-clause-refuses : goal.returns-in-Err-next_op-clause-refuses
returns-in-Err-next_op-clause-refuses g c clean =
    let old = state g.S.Store c.args.conn.now in
    let mid = state g.S.Store c.rows.rows.conn.now in
    let new = state g.S.Store c.next_op.new.rows.conn.now in
    let late : HasCleanDisk new = search rules in
    let before = clean_before mid new _ c.next_op.ensures.survives late in
    let ready = c.requires.serving (clean_before old mid _ c.rows.invariant.survives before) in
    let fails : FailsToLoad old new c.in-Err-next_op.error = step_fails g.S.Store old c.rows.rows.conn.now c.next_op.new.rows.conn.now c.rows.ops c.rows._count ready.schema (c.rows.invariant.same before) (c.rows.invariant.given before)
    c.rows.invariant.survives c.in-Err-next_op.error (c.in-Err-next_op.ensures.fails late) in
    search rules

pub returns-in-Ok-Bad-clause-refuses : goal.returns-in-Ok-Bad-clause-refuses
returns-in-Ok-Bad-clause-refuses g c clean =
    let old = state g.S.Store c.args.conn.now in
    let mid = state g.S.Store c.rows.rows.conn.now in
    let new = state g.S.Store c.next_op.new.rows.conn.now in
    let late : HasCleanDisk new = search rules in
    let before = clean_before mid new _ c.next_op.ensures.survives late in
    let ready = c.requires.serving (clean_before old mid _ c.rows.invariant.survives before) in
    let bad = rw c.in-Ok-Bad.field-0-is at (c.in-Ok-Bad.ensures.ok late) in (
      bad_step g.S.Store old c.rows.rows.conn.now c.next_op.new.rows.conn.now c.rows.ops c.rows._count ready.schema (c.rows.invariant.same before) (c.rows.invariant.given before) (c.in-Ok-Bad.ensures.same late) bad.0 bad.1 bad.2,
      (let same : IsUnchanged old new = unchanged_then old mid new (c.rows.invariant.same before) (c.in-Ok-Bad.ensures.same late) in search rules),
    )

pub returns-then-is_some-clause-refuses : goal.returns-then-is_some-clause-refuses
returns-then-is_some-clause-refuses g c clean =
    let old = state g.S.Store c.args.conn.now in
    let mid = state g.S.Store c.rows.rows.conn.now in
    let new = state g.S.Store c.next_op.new.rows.conn.now in
    let late : HasCleanDisk new = search rules in
    let before = clean_before mid new _ c.next_op.ensures.survives late in
    let ready = c.requires.serving (clean_before old mid _ c.rows.invariant.survives before) in
    let found = some_then c.clash.result _ (sym c.is_some.ensures ∙ c.if-is_some.true) c.clash.ensures.some in (
      clash_step g.S.Store old c.rows.rows.conn.now c.next_op.new.rows.conn.now c.rows.ops c.rows._count ready.schema (c.rows.invariant.same before) (c.rows.invariant.given before) (c.in-Ok-Found.ensures.same late)
          c.in-Ok-Found.op found.1.1.0 (rw c.in-Ok-Found.field-0-is at (c.in-Ok-Found.ensures.ok late)) found.1.1.1 (found.1.1.2 ∙ found.1.0) found.1.1.3,
      (let same : IsUnchanged old new = unchanged_then old mid new (c.rows.invariant.same before) (c.in-Ok-Found.ensures.same late) in search rules),
    )

pub returns-then-is_err-clause-refuses : goal.returns-then-is_err-clause-refuses
returns-then-is_err-clause-refuses g c clean =
    let old = state g.S.Store c.args.conn.now in
    let mid = state g.S.Store c.rows.rows.conn.now in
    let new = state g.S.Store c.next_op.new.rows.conn.now in
    let late : HasCleanDisk new = search rules in
    let before = clean_before mid new _ c.next_op.ensures.survives late in
    let ready = c.requires.serving (clean_before old mid _ c.rows.invariant.survives before) in
    let same : IsUnchanged old new = unchanged_then old mid new (c.rows.invariant.same before) (c.in-Ok-Found.ensures.same late) in
    let given = given_more g.S.Store c.rows.rows.conn.now c.next_op.new.rows.conn.now c.rows.ops (insert c.rows.ops c.in-Ok-Found.op)
    c.rows._count c.in-Ok-Found.op (c.rows.invariant.given before) (rw c.in-Ok-Found.field-0-is at (c.in-Ok-Found.ensures.ok late)) refl in
    let once = once_with c.rows.ops (insert c.rows.ops c.in-Ok-Found.op) c.in-Ok-Found.op c.rows.invariant.names
    (none_then c.clash.result _ (sym c.is_some.ensures ∙ c.if-is_some.false) c.clash.ensures.none) refl in
    let good = has_read_good g.S.Store old c.next_op.new.rows.conn.now c.next_op.new.rows.conn.now (insert c.rows.ops c.in-Ok-Found.op)
    (c.rows._count + 1) ready.schema same given once (omega arith) in
    (good, (let same : IsUnchanged old new = same in search rules))

pub returns-clause-refuses : goal.returns-clause-refuses
returns-clause-refuses g c clean =
    let old = state g.S.Store c.args.conn.now in
    let mid = state g.S.Store c.rows.rows.conn.now in
    let late : HasCleanDisk mid = search rules in
    let ready = c.requires.serving (clean_before old mid _ c.rows.invariant.survives late) in
    let many = has_rows g.S.Store old c.rows.rows.conn.now c.rows.rows.conn.now c.rows.ops c.rows._count ready.schema (c.rows.invariant.same late) (c.rows.invariant.given late) in
    (inr (refl, omega (arith, many)), λ is. absurd cc)
