use Rattle.std.proofs.Common.{IfErr, subst}
use Rattle.sqlite.specs.Held.{state}
use Rattle.fl_sql_tables.specs.Failing.{RunsOut}
use Rattle.fl_sql_tables.proofs.StateLemmas.{clean_before}
use Rattle.fl_sql_tables.proofs.BootLemmas.{reads_self, boot_read}
use Rattle.fl_sql_tables.proofs.Texts.{plain_5}
use Rattle.fl_sql_tables.proofs.QueryLemmas.{row_same, undone_row, undone_same, quiet_query, on_ok, on_err}
use Rattle.fl_sql_tables.proofs.FailLemmas.{row_fault, row_out, boot_there}
use Rattle.fl_sql_tables.proofs.boot.read_boot.Goals as goal

pub returns-in-Ok-clause-ok : goal.returns-in-Ok-clause-ok
returns-in-Ok-clause-ok g c clean =
    let old = state g.S.Store c.args.conn.now in
    let new = state g.S.Store c.query_row.new.self in
    let ready = c.requires.serving (clean_before old new _ c.query_row.ensures.survives clean) in
    let row = reads_self old new ready.itself.0 c.args.number ready.boot c.in-Ok.row ready.schema ready.itself.1 (c.in-Ok.ensures.row clean) in
    boot_read c.boot_in.result c.in-Ok.row _ ready.itself.0 c.args.number ready.boot row ready.itself.1 c.boot_in.ensures.ok

pub returns-in-Ok-clause-same : goal.returns-in-Ok-clause-same
returns-in-Ok-clause-same g c clean =
    let old = state g.S.Store c.args.conn.now in
    let new = state g.S.Store c.query_row.new.self in
    let ready = c.requires.serving (clean_before old new _ c.query_row.ensures.survives clean) in
    on_ok c.boot_in.result (row_same _ _ old new ready.schema plain_5 _ (c.in-Ok.ensures.row clean))

pub returns-in-Ok-clause-err : goal.returns-in-Ok-clause-err
returns-in-Ok-clause-err g c clean =
    let old = state g.S.Store c.args.conn.now in
    let new = state g.S.Store c.query_row.new.self in
    let ready = c.requires.serving (clean_before old new _ c.query_row.ensures.survives clean) in
    on_err c.boot_in.result (undone_same old new ready.settled (row_same _ _ old new ready.schema plain_5 _ (c.in-Ok.ensures.row clean)))

pub returns-in-Ok-clause-survives : goal.returns-in-Ok-clause-survives
returns-in-Ok-clause-survives g c =
    quiet_query _ _ (state g.S.Store c.args.conn.now) (state g.S.Store c.query_row.new.self) c.args.number c.requires.serving plain_5 c.query_row.ensures.survives

pub returns-in-Err-clause-err : goal.returns-in-Err-clause-err
returns-in-Err-clause-err g c clean =
    let old = state g.S.Store c.args.conn.now in
    let new = state g.S.Store c.query_row.new.self in
    let ready = c.requires.serving (clean_before old new _ c.query_row.ensures.survives clean) in
    undone_row _ _ old new ready.schema plain_5 _ ready.settled (c.in-Err.ensures.row clean)

pub returns-in-Err-clause-survives : goal.returns-in-Err-clause-survives
returns-in-Err-clause-survives g c =
    quiet_query _ _ (state g.S.Store c.args.conn.now) (state g.S.Store c.query_row.new.self) c.args.number c.requires.serving plain_5 c.query_row.ensures.survives

pub returns-in-Ok-clause-fails : goal.returns-in-Ok-clause-fails
returns-in-Ok-clause-fails g c clean =
    let old = state g.S.Store c.args.conn.now in
    let new = state g.S.Store c.query_row.new.self in
    let ready = c.requires.serving (clean_before old new _ c.query_row.ensures.survives clean) in
    let row = reads_self old new ready.itself.0 c.args.number ready.boot c.in-Ok.row ready.schema ready.itself.1 (c.in-Ok.ensures.row clean) in
    boot_there _ c.boot_in.result c.in-Ok.row ready.itself.0 c.args.number ready.boot ready.in_range row c.boot_in.ensures.err

pub returns-in-Err-clause-fails : goal.returns-in-Err-clause-fails
returns-in-Err-clause-fails g c clean =
    let old = state g.S.Store c.args.conn.now in
    let new = state g.S.Store c.query_row.new.self in
    let ready = c.requires.serving (clean_before old new _ c.query_row.ensures.survives clean) in
    row_fault old new c.args.number ready.boot ready.schema ready.is_open ready.itself _ (c.in-Err.ensures.row clean)

pub returns-in-Err-clause-wants : goal.returns-in-Err-clause-wants
returns-in-Err-clause-wants g c clean is =
    let old = state g.S.Store c.args.conn.now in
    let new = state g.S.Store c.query_row.new.self in
    let ready = c.requires.serving (clean_before old new _ c.query_row.ensures.survives clean) in
    row_out old new c.args.number ready.boot ready.schema ready.is_open ready.itself _ (c.in-Err.ensures.row clean) (let same = is in cc)

pub returns-in-Ok-clause-wants : goal.returns-in-Ok-clause-wants
returns-in-Ok-clause-wants g c clean is =
    let old = state g.S.Store c.args.conn.now in
    let new = state g.S.Store c.query_row.new.self in
    let ready = c.requires.serving (clean_before old new _ c.query_row.ensures.survives clean) in
    let row = reads_self old new ready.itself.0 c.args.number ready.boot c.in-Ok.row ready.schema ready.itself.1 (c.in-Ok.ensures.row clean) in
    subst (λ r. IfErr r (λ _. RunsOut old new)) is
    (boot_there (λ _. RunsOut old new) c.boot_in.result c.in-Ok.row ready.itself.0 c.args.number ready.boot ready.in_range row c.boot_in.ensures.err)
