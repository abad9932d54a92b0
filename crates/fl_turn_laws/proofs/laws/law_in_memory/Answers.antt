use Rattle.fl_turns.specs.Session.{begun}
use Rattle.fl_turn_laws.proofs.Given.{run_too}
use Rattle.fl_turn_laws.proofs.Memory.{one_way, are_given}
use Rattle.fl_turn_laws.proofs.laws.law_in_memory.Goals as goal

pub returns-clause-one : goal.returns-clause-one
returns-clause-one c = λ lines a b m n. c.law_output.ensures (record {}) lines a b m n one_way

pub returns-clause-stores : goal.returns-clause-stores
returns-clause-stores c = λ lines answers end. run_too _ _ are_given begun lines answers end
