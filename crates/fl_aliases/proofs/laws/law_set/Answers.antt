use Rattle.fl_aliases.specs.laws.Placing.{set_found, set_others, set_places}
use Rattle.fl_aliases.proofs.laws.law_set.Goals as goal

pub returns-clause-found : goal.returns-clause-found
returns-clause-found c = set_found

pub returns-clause-others : goal.returns-clause-others
returns-clause-others c = set_others

pub returns-clause-places : goal.returns-clause-places
returns-clause-places c = set_places
