use Rattle.std.proofs.Common.{List}
use Rattle.fl_labels.specs.declared.pid.Pid.{Pid}
use Rattle.fl_system.specs.declared.event.Event.{Event}
use Rattle.fl_system.specs.Runs.{Happens, IsRun, Moment, end}
use Rattle.fl_system.specs.World.{World}
use Rattle.fl_system.specs.WorldSteps.{Step}
use Rattle.fl_system_laws.specs.laws.Going.{moves_goes}
use Rattle.fl_world_laws.specs.laws.Naming.{IsNamed, reached_named, goes_named, run_named}
use Rattle.fl_history_laws.specs.Seats.{made}
use Rattle.fl_history_laws.specs.laws.Pids.{AllTidy, reached_tidy, goes_tidy, run_tidy, run_given}
use Rattle.fl_history_laws.specs.laws.Pids.{step_makes, made_new, made_given, lives_own}
use Rattle.fl_history_laws.proofs.laws.law_pids.Goals as goal

once : (w after last : World) (event later : Event) (ms : List Moment) (pid : Pid) → IsNamed w → AllTidy w
    → Step w event (made pid) after → IsRun after ms → ¬ Step (end after ms) later (made pid) last
once w after last event later ms pid named tidy step run again =
    let goes = moves_goes w (Happens event) (made pid) after step in
    let tidy_after = goes_tidy tidy goes in
    let given = run_given after ms tidy_after run (made_given w named tidy (step_makes w pid step)) in
    made_new (end after ms) (run_named after ms (goes_named named goes) run) (run_tidy after ms tidy_after run)
    (step_makes (end after ms) pid again) given

pub returns-clause-new : goal.returns-clause-new
returns-clause-new c = λ w after event pid reached step.
    made_new w (reached_named w reached) (reached_tidy w reached) (step_makes w pid step)

pub returns-clause-given : goal.returns-clause-given
returns-clause-given c = λ w after event pid reached step.
    made_given w (reached_named w reached) (reached_tidy w reached) (step_makes w pid step)

pub returns-clause-for_good : goal.returns-clause-for_good
returns-clause-for_good c = λ w ms pid reached run given. run_given w ms (reached_tidy w reached) run given

pub returns-clause-once : goal.returns-clause-once
returns-clause-once c = λ w after last event later ms pid reached step run.
    once w after last event later ms pid (reached_named w reached) (reached_tidy w reached) step run

pub returns-clause-there : goal.returns-clause-there
returns-clause-there c = λ w number s pid process reached at there.
    lives_own w number s pid process (reached_named w reached) (reached_tidy w reached) at there
