use Rattle.fl_world_laws.specs.laws.Naming.{reached_named}
use Rattle.fl_history_laws.specs.laws.Pids.{reached_tidy}
use Rattle.fl_history_laws.specs.laws.Sending.{move_outgo, outgo_adds, was_sent}
use Rattle.fl_history_laws.specs.laws.Arriving.{arrived_delivers}
use Rattle.fl_history_laws.proofs.laws.law_sent.Goals as goal

pub returns-clause-added : goal.returns-clause-added
returns-clause-added c = λ w after move reply reached moves.
    outgo_adds (move_outgo w (reached_named w reached) (reached_tidy w reached) move moves)

pub returns-clause-sent : goal.returns-clause-sent
returns-clause-sent c = λ desks k ms sent message run there of. was_sent of desks ms run there

pub returns-clause-delivered : goal.returns-clause-delivered
returns-clause-delivered c = λ w after move pid reached moves.
    arrived_delivers w pid move after moves
