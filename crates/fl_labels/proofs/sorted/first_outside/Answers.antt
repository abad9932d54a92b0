use Rattle.std.proofs.Common.{sym, ◌∙◌, arith}
use Rattle.fl_labels.proofs.Walk.{none_outside, past_the_end, next_above, both_more, second_more}
use Rattle.fl_labels.proofs.sorted.first_outside.Goals as goal

pub returns-then-j-those : goal.returns-then-j-those
returns-then-j-those g c =
    past_the_end g.met.T.Ord.total _ _ _ _ c.loop-i.invariant c.requires.these c.index-these-i.result c.loop-i-test.true c.index-these-i.is (omega arith)

pub returns-in-Less : goal.returns-in-Less
returns-in-Less g c =
    next_above g.met.T.Ord.total _ _ _ _ c.loop-i.invariant c.requires.these c.index-these-i.result c.loop-i-test.true c.index-these-i.is c.requires.those c.index-those-j.result (omega arith) c.index-those-j.is (sym c.cmp.ensures ∙ c.in-Less.is)

pub loop-i-preserved-in-Equal : goal.loop-i-preserved-in-Equal
loop-i-preserved-in-Equal g c =
    both_more g.met.T.Ord.total _ _ _ _ c.loop-i.invariant c.requires.these c.index-these-i.result c.loop-i-test.true c.index-these-i.is c.requires.those c.index-those-j.result (omega arith) c.index-those-j.is (sym c.cmp.ensures ∙ c.in-Equal.is)

pub loop-i-preserved : goal.loop-i-preserved
loop-i-preserved g c =
    second_more g.met.T.Ord.total _ _ _ _ c.loop-i.invariant c.requires.these c.index-these-i.result c.loop-i-test.true c.index-these-i.is c.requires.those c.index-those-j.result (omega arith) c.index-those-j.is (sym c.cmp.ensures ∙ c.in-Greater.is)

pub returns : goal.returns
returns g c = none_outside g.met.T.Ord.total _ _ _ _ c.loop-i.invariant c.loop-i-test.false
