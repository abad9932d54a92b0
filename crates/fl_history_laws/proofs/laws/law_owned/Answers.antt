use Rattle.fl_history_laws.specs.laws.Pids.{reached_tidy}
use Rattle.fl_history_laws.specs.laws.Living.{altered}
use Rattle.fl_history_laws.specs.laws.Owning.{alters_loses, move_gains, was_given}
use Rattle.fl_history_laws.proofs.laws.law_owned.Goals as goal

pub returns-clause-gained : goal.returns-clause-gained
returns-clause-gained c = λ w after move reply pid cap reached moves o.
    move_gains w after move (reached_tidy w reached) moves o

pub returns-clause-lost : goal.returns-clause-lost
returns-clause-lost c = λ w after move reply pid cap process reached moves o lives gone.
    alters_loses (altered (reached_tidy w reached) moves pid o.process process o.lives lives) o.owned gone

pub returns-clause-given : goal.returns-clause-given
returns-clause-given c = λ desks ms pid cap run o. was_given desks ms run o
