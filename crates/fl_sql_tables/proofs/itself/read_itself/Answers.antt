use Rattle.sqlite.specs.Held.{state}
use Rattle.fl_sql_tables.specs.Tables.{select_whole_text}
use Rattle.fl_sql_tables.proofs.Texts.{plain_6}
use Rattle.fl_sql_tables.proofs.QueryLemmas.{quiet_known, shown_same}
use Rattle.fl_sql_tables.proofs.ItselfLemmas.{itself_is}
use Rattle.fl_sql_tables.proofs.itself.read_itself.Goals as goal

pub returns-in-Ok-clause-survives : goal.returns-in-Ok-clause-survives
returns-in-Ok-clause-survives g c =
    quiet_known select_whole_text _ (state g.S.Store c.args.conn.now) (state g.S.Store c.query_all.new.self) c.requires.ours plain_6 c.query_all.ensures.survives

pub returns-in-Err-clause-survives : goal.returns-in-Err-clause-survives
returns-in-Err-clause-survives g c =
    quiet_known select_whole_text _ (state g.S.Store c.args.conn.now) (state g.S.Store c.query_all.new.self) c.requires.ours plain_6 c.query_all.ensures.survives

pub returns-in-Ok-clause-same : goal.returns-in-Ok-clause-same
returns-in-Ok-clause-same g c clean =
    shown_same select_whole_text _ (state g.S.Store c.args.conn.now) (state g.S.Store c.query_all.new.self) c.requires.ours plain_6 _ (c.in-Ok.ensures.ok clean)

pub returns-in-Ok-clause-ok : goal.returns-in-Ok-clause-ok
returns-in-Ok-clause-ok g c clean =
    let old = state g.S.Store c.args.conn.now in
    let new = state g.S.Store c.query_all.new.self in
    let shown = c.in-Ok.ensures.ok clean in
    let same = shown_same select_whole_text _ old new c.requires.ours plain_6 _ shown in
    itself_is c.args.number old new c.in-Ok.rows.items c.itself_in.result c.requires.ours (c.requires.live same.0.was_open).0 shown (rw c.as_slice.ensures.value at c.itself_in.ensures)
