use Rattle.fl_closure.proofs.Noting.{gains_none}
use Rattle.fl_closure.proofs.Growing.{transitive_after}
use Rattle.fl_closure.proofs.Closing.{closes_none, closes_gift, closes_other}
use Rattle.fl_closure.proofs.Giving.{gains_on}
use Rattle.fl_closure.proofs.closed.ClosedRows.give_all.Goals.{in-Some+in_ok-give, in_default}
use Rattle.fl_closure.proofs.closed.ClosedRows.give_all.Goals as goal

pub loop-op-init : goal.loop-op-init
loop-op-init c = record {
  transitive = c.requires.transitive;
  mirrored = c.requires.mirrored;
  closes = closes_none c.args.self.now.reached;
  gains = record { reached = gains_none _ _ c.requires.reached; users = gains_none _ _ c.requires.users };
}

pub returns-in_err-give-clause-notes : goal.returns-in_err-give-clause-notes
returns-in_err-give-clause-notes c = gains_on _ _ _ _ _ c.loop-op.invariant.gains c.give.ensures.notes

pub loop-op-preserved : goal.loop-op-preserved
loop-op-preserved c = elim c.match-gift.branch [
  | in-Some+in_ok-give w ↦ rw (w.self-is, w.notes-is) (record {
    transitive = transitive_after _ c.loop-op.invariant.transitive _ _ _ w.in_ok-give.ensures.ok;
    mirrored = w.in_ok-give.ensures.mirrored;
    closes = closes_gift _ _ _ _ c.op-item.result _ w.in-Some.entry.owner w.in-Some.entry.cap c.loop-op-test.true c.op-item.is c.gift.ensures w.in-Some.is c.loop-op.invariant.closes _ w.in_ok-give.ensures.ok;
    gains = gains_on _ _ _ _ _ c.loop-op.invariant.gains w.give.ensures.notes;
  })
  | in_default w ↦ rw (w.self-is, w.notes-is) (record {
    transitive = c.loop-op.invariant.transitive;
    mirrored = c.loop-op.invariant.mirrored;
    closes = closes_other _ _ _ _ c.op-item.result _ c.loop-op-test.true c.op-item.is c.gift.ensures w.in_default.is c.loop-op.invariant.closes;
    gains = c.loop-op.invariant.gains;
  })
]
