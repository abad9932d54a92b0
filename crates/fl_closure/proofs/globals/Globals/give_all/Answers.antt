use Rattle.fl_closure.proofs.Noting.{gains_none}
use Rattle.fl_closure.proofs.GivingAll.{gives_none, gives_at, gives_at_other}
use Rattle.fl_closure.proofs.globals.Globals.give_all.Goals.{in-Some+in_ok-note, in_default}
use Rattle.fl_closure.proofs.globals.Globals.give_all.Goals as goal

pub loop-op-init : goal.loop-op-init
loop-op-init c = record {
  gives = gives_none c.args.self.now;
  gains = gains_none _ _ c.requires;
}

pub returns-in_err-note-clause-notes : goal.returns-in_err-note-clause-notes
returns-in_err-note-clause-notes c = c.note.ensures.news _ c.loop-op.invariant.gains

pub loop-op-preserved : goal.loop-op-preserved
loop-op-preserved c = elim c.match-global_gift.branch [
  | in-Some+in_ok-note w ↦ rw (w.self-is, w.notes-is) (record {
    gives = gives_at _ _ _ _ c.op-item.result c.loop-op-test.true c.op-item.is c.loop-op.invariant.gives _ _ w.in-Some.cap _ c.global_gift.ensures w.in-Some.is w.only.ensures w.in_ok-note.ensures.ok;
    gains = w.note.ensures.news _ c.loop-op.invariant.gains;
  })
  | in_default w ↦ rw (w.self-is, w.notes-is) (record {
    gives = gives_at_other _ _ _ _ c.op-item.result c.loop-op-test.true c.op-item.is c.loop-op.invariant.gives _ c.global_gift.ensures w.in_default.not-Some;
    gains = c.loop-op.invariant.gains;
  })
]
