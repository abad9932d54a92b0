use Rattle.std.proofs.Common.{subst, sym}
use Rattle.fl_closure.specs.parts.Noted.{Gains}
use Rattle.fl_closure.proofs.Noting.{adds_nothing, adds_join, ofeach_none, ofeach_more}
use Rattle.fl_closure.proofs.rows.Rows.note_each.Goals as goal

pub loop-name-init : goal.loop-name-init
loop-name-init c = record {
  adds = adds_nothing _ _ (ofeach_none c.args.names.now c.args.blocks.now);
  notes = λ first g. g;
}

pub returns-in_err-note_all-clause-news : goal.returns-in_err-note_all-clause-news
returns-in_err-note_all-clause-news c = λ first g.
    c.note_all.ensures.news first (c.loop-name.invariant.notes first (subst (λ l. Gains first l c.args.self.now) (sym c.try_reserve.ensures.items) g))

pub loop-name-preserved : goal.loop-name-preserved
loop-name-preserved c = record {
  adds = adds_join _ _ _ _ _ _ (ofeach_more _ c.args.blocks.now _ _ c.loop-name-test.true c.name-item.is) c.loop-name.invariant.adds c.in_ok-note_all.ensures.ok;
  notes = λ first g. c.note_all.ensures.news first (c.loop-name.invariant.notes first g);
}
