use Rattle.fl_world_tests.proofs.handed.knows_changes.Goals as goal

pub returns-clause-owned : goal.returns-clause-owned
returns-clause-owned g c = record {
  each = λ honest w may after move reply pid cap.
      c.law_owned.ensures.gained w after move reply pid cap (c.law_reached.ensures.each honest w may);
}

pub returns-clause-endpoints : goal.returns-clause-endpoints
returns-clause-endpoints g c = record {
  each = λ honest w may after move reply pid old new.
      c.law_endpoints.ensures w after move reply pid old new (c.law_reached.ensures.each honest w may);
}

pub returns-clause-labels : goal.returns-clause-labels
returns-clause-labels g c = record {
  each = λ honest w may after move reply pid old new.
      c.law_labels.ensures w after move reply pid old new (c.law_reached.ensures.each honest w may);
}

pub returns-clause-tags : goal.returns-clause-tags
returns-clause-tags g c = record {
  each = λ honest w may ms pid side tag old new.
      c.law_kept_tags.ensures.kept w ms pid side tag old new (c.law_reached.ensures.each honest w may);
}

pub returns-clause-delivered : goal.returns-clause-delivered
returns-clause-delivered g c = record {
  each = λ honest w may after move pid.
      c.law_sent.ensures.delivered w after move pid (c.law_reached.ensures.each honest w may);
}
