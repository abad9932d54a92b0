use Rattle.fl_world_laws.specs.laws.Naming.{reached_named}
use Rattle.fl_history_laws.specs.laws.Pids.{reached_tidy}
use Rattle.fl_history_laws.specs.laws.Living.{born}
use Rattle.fl_history_laws.specs.laws.Telling.{made_absent, made_lives}
use Rattle.fl_history_laws.proofs.laws.law_births.Goals as goal

pub returns-clause-born : goal.returns-clause-born
returns-clause-born c = λ w after move reply pid child reached moves absent lives.
    born (reached_tidy w reached) moves pid child absent lives

pub returns-clause-lives : goal.returns-clause-lives
returns-clause-lives c = λ w after move pid reached moves.
    let named = reached_named w reached in
    let tidy = reached_tidy w reached in
    (made_absent w named tidy pid move after moves, made_lives w named tidy pid move after moves)
