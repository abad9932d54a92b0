use Rattle.fl_ops.specs.laws.Reaching.{root_reached, reach_closed, reach_least, reach_more, reach_again}
use Rattle.fl_ops.proofs.laws.law_reach.Goals as goal

pub returns-clause-roots : goal.returns-clause-roots
returns-clause-roots c = λ ops owned. root_reached

pub returns-clause-closed : goal.returns-clause-closed
returns-clause-closed c = λ ops owned. reach_closed

pub returns-clause-least : goal.returns-clause-least
returns-clause-least c = λ ops owned kept. reach_least

pub returns-clause-grows : goal.returns-clause-grows
returns-clause-grows c = λ ops more owned held listed given. reach_more listed given

pub returns-clause-composes : goal.returns-clause-composes
returns-clause-composes c = λ ops owned. reach_again
