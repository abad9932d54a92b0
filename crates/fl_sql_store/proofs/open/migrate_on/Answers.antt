use Rattle.std.proofs.Common.{◌≡◌, ap, ◌∙◌, inl}
use Rattle.sqlite.specs.Held.{state}
use Rattle.sqlite.specs.State.{HasCleanDisk}
use Rattle.fl_labels.specs.SetBy.{of_list, of_list-members}
use Rattle.fl_ops.specs.OpOrder.{op_cmp}
use Rattle.fl_ops.specs.OpLaws.{op_total, op_exact}
use Rattle.fl_sql_tables.specs.Stored.{ops_in}
use Rattle.fl_sql_store.proofs.KeepLemmas.{clean_before, stays_quiet}
use Rattle.fl_sql_store.proofs.RewriteLemmas.{former_unchanged, ready_migrated, rewrites_by, held_migrated, leaves_rewritten, leaves_quiet, all_read_good, refuses_after, on_ok_then, if_err_then}
use Rattle.fl_sql_store.proofs.open.migrate_on.Goals as goal

pub migrate_with-requires-clause-former : goal.migrate_with-requires-clause-former
migrate_with-requires-clause-former g c =
    let old = state g.S.Store c.args.conn.now in
    let mid = state g.S.Store c.former_ops.new.conn in
    former_unchanged c.args.number old mid c.requires.former c.former_ops.ensures.survives c.in-Ok.ensures.same

pub returns-in-Ok-in_one_piece-clause-rewrites : goal.returns-in-Ok-in_one_piece-clause-rewrites
returns-in-Ok-in_one_piece-clause-rewrites g c clean =
    let old = state g.S.Store c.args.conn.now in
    let mid = state g.S.Store c.former_ops.new.conn in
    let new = state g.S.Store c.migrate_with.new.conn in
    let early = clean_before mid new _ c.migrate_with.ensures.survives clean in
    let are : of_list {R = op_cmp} c.deref.result.now ≡ ops_in (old.now.trees 1) =
    ap of_list (c.deref.ensures.value ∙ c.in-Ok-in_one_piece.ensures.ok) ∙ of_list-members op_total op_exact c.in-Ok.former ∙ c.in-Ok.ensures.ok early in
    on_ok_then c.migrate_with.result (c.migrate_with.ensures.ok clean) (rewrites_by c.args.number _ old mid new (c.in-Ok.ensures.same early) are (c.in-Ok.ensures.good early))

pub returns-in-Ok-in_one_piece-clause-ready : goal.returns-in-Ok-in_one_piece-clause-ready
returns-in-Ok-in_one_piece-clause-ready g c clean =
    let old = state g.S.Store c.args.conn.now in
    let mid = state g.S.Store c.former_ops.new.conn in
    let new = state g.S.Store c.migrate_with.new.conn in
    let early = clean_before mid new _ c.migrate_with.ensures.survives clean in
    let former = former_unchanged c.args.number old mid c.requires.former c.former_ops.ensures.survives c.in-Ok.ensures.same early in
    on_ok_then c.migrate_with.result (c.migrate_with.ensures.ok clean) (ready_migrated c.args.number _ mid new former.0)

pub returns-in-Ok-in_one_piece-clause-refuses : goal.returns-in-Ok-in_one_piece-clause-refuses
returns-in-Ok-in_one_piece-clause-refuses g c clean =
    let old = state g.S.Store c.args.conn.now in
    let mid = state g.S.Store c.former_ops.new.conn in
    let new = state g.S.Store c.migrate_with.new.conn in
    let early = clean_before mid new _ c.migrate_with.ensures.survives clean in
    let first = c.former_ops.ensures.survives in
    if_err_then c.migrate_with.result (c.migrate_with.ensures.refuses clean) (refuses_after old mid new (c.in-Ok.ensures.same early) first.counts first.limit)

pub returns-in-Ok-in_one_piece-clause-held : goal.returns-in-Ok-in_one_piece-clause-held
returns-in-Ok-in_one_piece-clause-held g c clean =
    let old = state g.S.Store c.args.conn.now in
    let mid = state g.S.Store c.former_ops.new.conn in
    let new = state g.S.Store c.migrate_with.new.conn in
    let early = clean_before mid new _ c.migrate_with.ensures.survives clean in
    let ready = (c.requires.former (clean_before old mid _ c.former_ops.ensures.survives early)).0 in
    held_migrated c.args.number old ready (g.met.S.Store.stays c.args.conn.now.store) _ mid new clean c.former_ops.ensures.survives c.migrate_with.ensures.survives c.in-Ok.ensures.same
    (λ (early : HasCleanDisk mid). ap of_list (c.deref.ensures.value ∙ c.in-Ok-in_one_piece.ensures.ok) ∙ of_list-members op_total op_exact c.in-Ok.former ∙ c.in-Ok.ensures.ok early)

pub returns-in-Err-clause-held : goal.returns-in-Err-clause-held
returns-in-Err-clause-held g c clean = stays_quiet c.args.number (state g.S.Store c.args.conn.now) (state g.S.Store c.former_ops.new.conn) clean c.former_ops.ensures.survives

pub returns-in_default-clause-held : goal.returns-in_default-clause-held
returns-in_default-clause-held g c clean = stays_quiet c.args.number (state g.S.Store c.args.conn.now) (state g.S.Store c.former_ops.new.conn) clean c.former_ops.ensures.survives

pub returns-in-Ok-in_one_piece-clause-leaves : goal.returns-in-Ok-in_one_piece-clause-leaves
returns-in-Ok-in_one_piece-clause-leaves g c =
    let old = state g.S.Store c.args.conn.now in
    let mid = state g.S.Store c.former_ops.new.conn in
    let new = state g.S.Store c.migrate_with.new.conn in
    leaves_rewritten c.args.number _ old mid new c.former_ops.ensures.survives c.migrate_with.ensures.survives c.in-Ok.ensures.same
    (λ (early : HasCleanDisk mid). ap of_list (c.deref.ensures.value ∙ c.in-Ok-in_one_piece.ensures.ok) ∙ of_list-members op_total op_exact c.in-Ok.former ∙ c.in-Ok.ensures.ok early)

pub returns-in-Err-clause-leaves : goal.returns-in-Err-clause-leaves
returns-in-Err-clause-leaves g c = leaves_quiet (state g.S.Store c.args.conn.now) (state g.S.Store c.former_ops.new.conn) _ c.former_ops.ensures.survives

pub returns-in_default-clause-leaves : goal.returns-in_default-clause-leaves
returns-in_default-clause-leaves g c = leaves_quiet (state g.S.Store c.args.conn.now) (state g.S.Store c.former_ops.new.conn) _ c.former_ops.ensures.survives

pub returns-in_default-clause-refuses : goal.returns-in_default-clause-refuses
returns-in_default-clause-refuses g c clean =
    let old = state g.S.Store c.args.conn.now in
    inl (all_read_good (old.now.trees 1) c.in-Ok.former (c.in-Ok.ensures.ok clean) (c.in-Ok.ensures.good clean) c.in-Ok.ensures.names c.in_default.ensures.some, c.in-Ok.ensures.same clean)
