use Rattle.fl_crew_turns.specs.Answered.{GivesEach}
use Rattle.fl_crew_turns.specs.laws.Counting.{one_answer}
use Rattle.fl_crew_calls.specs.Calls.{crews_calls}
use Rattle.fl_crew_calls.specs.laws.Replies.{replied_each}
use Rattle.std.proofs.Common.{◌∙◌, ◌+◌, [], arith, length}
use Rattle.fl_makers.specs.Making.{Making}
use Rattle.fl_store.specs.Custody.{Custody}
use Rattle.fl_crews.proofs.laws.law_one_answer.Goals as goal

-- each job of a batch has its reply
gives_each : {K M : Type 0} (custody : Custody K) (making : Making M K)
    → GivesEach (crews_calls custody making)
unfolding crews_calls
gives_each custody making crews crews' number jobs replies serves =
    omega (arith, replied_each jobs [] replies serves)

pub returns : goal.returns
returns g c = λ old new lines written loud.
    one_answer (crews_calls g.M.K.Keeper.custody g.M.MakesKeepers.making)
    (gives_each g.M.K.Keeper.custody g.M.MakesKeepers.making) old new lines written loud
