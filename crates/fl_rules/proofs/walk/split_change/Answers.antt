use Rattle.std.proofs.Common.{sym, ◌∙◌}
use Rattle.fl_rules.proofs.Walks.{lost_alone, gained_alone, lost_first, gained_first, both_first}
use Rattle.fl_rules.proofs.walk.split_change.Goals as goal
use Rattle.fl_rules.proofs.walk.split_change.Goals.{in-Less, in-Equal, in-Greater}

pub returns-in-None-Some : goal.returns-in-None-Some
returns-in-None-Some c =
    gained_alone _ _ _ _ c.in-None-Some.ensures'.cases.0 c.in-None-Some.ensures.cases c.requires.to_rises c.requires.from_rises

pub returns-in-Some-None : goal.returns-in-Some-None
returns-in-Some-None c =
    lost_alone _ _ _ _ c.in-Some-None.ensures.cases.0 c.in-Some-None.ensures'.cases c.requires.from_rises c.requires.to_rises

pub returns-after-cmp : goal.returns-after-cmp
returns-after-cmp c =
    let from_is = c.in-Some-Some.ensures.cases.0 in
    let to_is = c.in-Some-Some.ensures'.cases.0 in
    elim c.match-cmp.branch [
      | in-Less w ↦ rw w.result-is (lost_first _ _ _ _ _ _ from_is to_is c.requires.from_rises c.requires.to_rises (sym c.cmp.ensures ∙ w.in-Less.is))
      | in-Equal w ↦ rw w.result-is (both_first _ _ _ _ _ _ from_is to_is c.requires.from_rises c.requires.to_rises (sym c.cmp.ensures ∙ w.in-Equal.is))
      | in-Greater w ↦ rw w.result-is (gained_first _ _ _ _ _ _ from_is to_is c.requires.from_rises c.requires.to_rises (sym c.cmp.ensures ∙ w.in-Greater.is))
    ]
