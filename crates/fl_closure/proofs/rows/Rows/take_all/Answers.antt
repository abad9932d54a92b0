use Rattle.fl_closure.proofs.Noting.{loses_none, loses_at}
use Rattle.fl_closure.proofs.rows.Rows.take_all.Goals as goal

pub loop-note-init : goal.loop-note-init
loop-note-init c = loses_none _ c.args.notes.now

pub loop-note-preserved : goal.loop-note-preserved
loop-note-preserved c =
    loses_at _ _ _ _ _ _ c.loop-note-test.true c.note-item.is c.loop-note.invariant c.take.ensures
