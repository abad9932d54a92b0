use Rattle.fl_ops.specs.laws.OneSpelling.{no_fault, op_front, second_has}
use Rattle.fl_ops.proofs.laws.law_one_spelling.Goals as goal

pub returns-clause-read : goal.returns-clause-read
returns-clause-read c = no_fault

pub returns-clause-one : goal.returns-clause-one
returns-clause-one c = op_front

pub returns-clause-written : goal.returns-clause-written
returns-clause-written c = second_has
