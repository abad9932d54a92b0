use Rattle.fl_world_tests.proofs.handed.knows_lives.Goals as goal

pub returns-clause-pids : goal.returns-clause-pids
returns-clause-pids g c = record {
  each = λ honest w may after event pid.
      c.law_pids.ensures.new w after event pid (c.law_reached.ensures.each honest w may);
}

pub returns-clause-births : goal.returns-clause-births
returns-clause-births g c = record {
  each = λ honest w may after move reply pid child.
      c.law_births.ensures.born w after move reply pid child (c.law_reached.ensures.each honest w may);
}

pub returns-clause-exits : goal.returns-clause-exits
returns-clause-exits g c = record {
  each = λ honest w may after move reply pid process.
      c.law_exits.ensures.left w after move reply pid process (c.law_reached.ensures.each honest w may);
}
