use Rattle.fl_closure.proofs.Noting.{adds_nothing, adds_join, ofone_none, ofone_more}
use Rattle.fl_closure.proofs.rows.Rows.note_all.Goals as goal

pub loop-block-init : goal.loop-block-init
loop-block-init c = record {
  adds = adds_nothing _ _ (ofone_none c.args.owner c.args.blocks.now);
  notes = λ first g. g;
}

pub returns-in_err-note-clause-news : goal.returns-in_err-note-clause-news
returns-in_err-note-clause-news c = λ first g. c.note.ensures.news first (c.loop-block.invariant.notes first g)

pub loop-block-preserved : goal.loop-block-preserved
loop-block-preserved c = record {
  adds = adds_join _ _ _ _ _ _ (ofone_more c.args.owner _ _ _ c.loop-block-test.true c.block-item.is) c.loop-block.invariant.adds c.in_ok-note.ensures.ok;
  notes = λ first g. c.note.ensures.news first (c.loop-block.invariant.notes first g);
}
