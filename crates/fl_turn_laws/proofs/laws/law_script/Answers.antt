use Rattle.fl_turns.specs.laws.Chains.{script_answered}
use Rattle.fl_turns.specs.laws.Scripts.{one_run}
use Rattle.fl_turn_laws.proofs.laws.law_script.Goals as goal

pub returns-clause-text : goal.returns-clause-text
returns-clause-text g c = λ maker. one_run g.M.K.Keeper.custody g.M.MakesKeepers.making maker

pub returns-clause-answers : goal.returns-clause-answers
returns-clause-answers g c = λ maker. script_answered g.M.K.Keeper.custody g.M.MakesKeepers.making maker
