use Rattle.fl_world_laws.specs.laws.Naming.{reached_named, run_named}
use Rattle.fl_history_laws.specs.laws.Pids.{reached_tidy, run_given, run_tidy}
use Rattle.fl_history_laws.specs.laws.Returning.{lives_given, run_away}
use Rattle.fl_history_laws.specs.laws.Living.{absent_none, left, none_absent}
use Rattle.fl_history_laws.specs.laws.Telling.{gone_after}
use Rattle.fl_system.specs.Runs.{end}
use Rattle.fl_history_laws.proofs.laws.law_exits.Goals as goal

pub returns-clause-left : goal.returns-clause-left
returns-clause-left c = λ w after move reply pid process reached moves lives absent.
    left (reached_tidy w reached) moves pid process lives absent

pub returns-clause-gone : goal.returns-clause-gone
returns-clause-gone c = λ w after move reply pid reached moves leaves.
    gone_after w (reached_named w reached) (reached_tidy w reached) pid after moves leaves

pub returns-clause-for_good : goal.returns-clause-for_good
returns-clause-for_good c = λ w ms later pid process reached lives run absent more.
    let named = reached_named w reached in
    let tidy = reached_tidy w reached in
    none_absent (run_away (end w ms) later (run_named w ms named run) (run_tidy w ms tidy run)
    (run_given w ms tidy run (lives_given named tidy lives)) more (absent_none (end w ms) pid absent))
