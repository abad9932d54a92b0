use Rattle.fl_aliases.specs.laws.Placing.{placed_found, placed_others, placed_set, taken_back}
use Rattle.fl_aliases.proofs.laws.law_place.Goals as goal

pub returns-clause-found : goal.returns-clause-found
returns-clause-found c = placed_found

pub returns-clause-others : goal.returns-clause-others
returns-clause-others c = placed_others

pub returns-clause-set : goal.returns-clause-set
returns-clause-set c = placed_set

pub returns-clause-taken_back : goal.returns-clause-taken_back
returns-clause-taken_back c = taken_back
