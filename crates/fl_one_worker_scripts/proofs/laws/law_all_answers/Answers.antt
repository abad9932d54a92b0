use Rattle.fl_crew_calls.specs.Calls.{crews_calls}
use Rattle.fl_one_worker_scripts.proofs.Writing.{all_answers_of}
use Rattle.fl_one_worker_scripts.proofs.laws.law_all_answers.Goals as goal

pub returns : goal.returns
returns g c =
    λ start end old new script status writes. all_answers_of
    (crews_calls g.M.K.Keeper.custody g.M.MakesKeepers.making) start end old new script status
    writes
