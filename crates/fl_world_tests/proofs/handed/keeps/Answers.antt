use Rattle.fl_world_tests.proofs.handed.keeps.Goals as goal

pub returns-clause-kept : goal.returns-clause-kept
returns-clause-kept g c = record {
  each = λ honest w may number s.
      c.law_kept.ensures.own w number s (c.law_reached.ensures.each honest w may);
}

pub returns-clause-hold : goal.returns-clause-hold
returns-clause-hold g c = record {
  each = λ honest w may number s op.
      c.law_hold.ensures w number s op (c.law_reached.ensures.each honest w may);
}
