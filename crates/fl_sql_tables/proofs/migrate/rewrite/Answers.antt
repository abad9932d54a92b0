use Rattle.std.proofs.Common.{◌∙◌, refl, arith}
use Rattle.sqlite.specs.Held.{state}
use Rattle.sqlite.specs.State.{HasCleanDisk}
use Rattle.fl_sql_tables.proofs.StateLemmas.{clean_before, survives_on}
use Rattle.fl_sql_tables.proofs.FailLemmas.{handed_on}
use Rattle.fl_sql_tables.proofs.MigrateLemmas.{emptied, migrates, fails_by_fault, fails_to_drop, fails_to_refill, fails_to_set, on_ok_then, if_err_then}
use Rattle.fl_sql_tables.proofs.migrate.rewrite.Goals as goal

pub returns-in_err-drop_ops-clause-fails : goal.returns-in_err-drop_ops-clause-fails
returns-in_err-drop_ops-clause-fails g c clean inside =
    let old = state g.S.Store c.args.tx.now.conn.now in
    let new = state g.S.Store c.drop_ops.new.tx.conn.now in
    let ready = (c.requires (clean_before old new _ c.drop_ops.ensures.survives clean)).0 in
    handed_on _ _ _ c.from_residual.ensures.1
    (fails_to_drop c.args.ops.now old new _ (c.in_err-drop_ops.ensures.fails clean inside ready.schema ready.is_open))

pub returns-in_err-create_ops-clause-fails : goal.returns-in_err-create_ops-clause-fails
returns-in_err-create_ops-clause-fails g c clean inside =
    let old = state g.S.Store c.args.tx.now.conn.now in
    let mid = state g.S.Store c.drop_ops.new.tx.conn.now in
    let new = state g.S.Store c.create_ops.new.tx.conn.now in
    let early = clean_before mid new _ c.create_ops.ensures.survives clean in
    let ready = (c.requires (clean_before old mid _ c.drop_ops.ensures.survives early)).0 in
    let drops = c.in_ok-drop_ops.ensures.ok early inside ready.schema in
    handed_on _ _ _ c.from_residual-in_err-create_ops.ensures.1
    (fails_by_fault c.args.ops.now old mid new c.drop_ops.ensures.survives.counts c.drop_ops.ensures.survives.limit _
    (c.in_err-create_ops.ensures.fails clean drops.shown.mode drops.schema drops.shown.is_open))

pub returns-in_err-refill-clause-fails : goal.returns-in_err-refill-clause-fails
returns-in_err-refill-clause-fails g c clean inside =
    let old = state g.S.Store c.args.tx.now.conn.now in
    let mid = state g.S.Store c.drop_ops.new.tx.conn.now in
    let made = state g.S.Store c.create_ops.new.tx.conn.now in
    let new = state g.S.Store c.refill.new.tx.conn.now in
    let late = clean_before made new _ c.refill.ensures.survives clean in
    let early = clean_before mid made _ c.create_ops.ensures.survives late in
    let ready = (c.requires (clean_before old mid _ c.drop_ops.ensures.survives early)).0 in
    let drops = c.in_ok-drop_ops.ensures.ok early inside ready.schema in
    let makes = c.in_ok-create_ops.ensures.ok late drops.shown.mode drops.schema in
    let before = survives_on old mid made c.drop_ops.ensures.survives c.create_ops.ensures.survives in
    handed_on _ _ _ c.from_residual-in_err-refill.ensures.1
    (fails_to_refill c.args.ops.now old made new before.counts before.limit _ made.now (emptied old mid made drops makes) refl
    (c.in_err-refill.ensures.fails clean makes.shown.mode (λ _. makes.schema) makes.shown.is_open))

pub returns-clause-fails : goal.returns-clause-fails
returns-clause-fails g c clean inside =
    let old = state g.S.Store c.args.tx.now.conn.now in
    let mid = state g.S.Store c.drop_ops.new.tx.conn.now in
    let made = state g.S.Store c.create_ops.new.tx.conn.now in
    let full = state g.S.Store c.refill.new.tx.conn.now in
    let new = state g.S.Store c.set_format.new.tx.conn.now in
    let last = clean_before full new _ c.set_format.ensures.survives clean in
    let late = clean_before made full _ c.refill.ensures.survives last in
    let early = clean_before mid made _ c.create_ops.ensures.survives late in
    let ready = (c.requires (clean_before old mid _ c.drop_ops.ensures.survives early)).0 in
    let drops = c.in_ok-drop_ops.ensures.ok early inside ready.schema in
    let makes = c.in_ok-create_ops.ensures.ok late drops.shown.mode drops.schema in
    let puts = c.in_ok-refill.ensures.ok last makes.shown.mode (λ _. makes.schema) makes.shown.is_open in
    let before = survives_on old mid full c.drop_ops.ensures.survives
    (survives_on mid made full c.create_ops.ensures.survives c.refill.ensures.survives) in
    if_err_then c.set_format.result (c.set_format.ensures.fails clean puts.shown.mode puts.added.schema puts.shown.is_open)
    (λ e. fails_to_set c.args.ops.now old full new before.counts before.limit e made.now (emptied old mid made drops makes) puts.added)

pub returns-clause-ok : goal.returns-clause-ok
returns-clause-ok g c clean inside =
    let old = state g.S.Store c.args.tx.now.conn.now in
    let mid = state g.S.Store c.drop_ops.new.tx.conn.now in
    let made = state g.S.Store c.create_ops.new.tx.conn.now in
    let full = state g.S.Store c.refill.new.tx.conn.now in
    let new = state g.S.Store c.set_format.new.tx.conn.now in
    let last = clean_before full new _ c.set_format.ensures.survives clean in
    let late = clean_before made full _ c.refill.ensures.survives last in
    let early = clean_before mid made _ c.create_ops.ensures.survives late in
    let former = c.requires (clean_before old mid _ c.drop_ops.ensures.survives early) in
    let drops = c.in_ok-drop_ops.ensures.ok early inside former.0.schema in
    let makes = c.in_ok-create_ops.ensures.ok late drops.shown.mode drops.schema in
    let puts = c.in_ok-refill.ensures.ok last makes.shown.mode (λ _. makes.schema) makes.shown.is_open in
    on_ok_then c.set_format.result (c.set_format.ensures.ok clean puts.shown.mode puts.added.schema)
    (migrates c.args.number c.args.ops.now old mid made full new former.0.is_open former.1 drops makes puts)
