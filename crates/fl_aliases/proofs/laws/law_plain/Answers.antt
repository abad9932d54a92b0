use Rattle.fl_aliases.specs.laws.Expanding.{plain_itself, plain_alone}
use Rattle.fl_aliases.proofs.laws.law_plain.Goals as goal

pub returns-clause-itself : goal.returns-clause-itself
returns-clause-itself c = plain_itself

pub returns-clause-alone : goal.returns-clause-alone
returns-clause-alone c = plain_alone
