use Rattle.fl_world_tests.proofs.handed.knows_runs.Goals as goal

pub returns-clause-catches_up : goal.returns-clause-catches_up
returns-clause-catches_up g c = record {
  each = λ honest w may ms to from op.
      c.law_half_round.ensures.saved w ms to from op (c.law_reached.ensures.each honest w may);
}

pub returns-clause-one : goal.returns-clause-one
returns-clause-one g c = record {
  each = λ honest w may w1 w2 events rs1 rs2.
      c.law_one_run.ensures w w1 w2 events rs1 rs2 (c.law_reached.ensures.each honest w may);
}
