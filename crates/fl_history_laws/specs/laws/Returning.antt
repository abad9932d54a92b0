-- Who went never comes back.
use Rattle.std.proofs.Common.{◌≡◌, refl, subst, List, [], ◌∷◌, Option, Some, None}
use Rattle.fl_labels.specs.declared.pid.Pid.{Pid}
use Rattle.fl_bench.specs.declared.process.Process.{Process}
use Rattle.fl_system.specs.Runs.{Comes, Happens, IsRun, Moment, Move, Moves, Returns, end}
use Rattle.fl_system.specs.Taint.{Lives}
use Rattle.fl_system.specs.World.{World}
use Rattle.fl_system_laws.specs.laws.Going.{moves_goes}
use Rattle.fl_world_laws.specs.laws.Naming.{IsNamed, goes_named}
use Rattle.fl_history_laws.specs.Seats.{WasGivenIn, made}
use Rattle.fl_history_laws.specs.laws.Pids.{AllTidy, WorldGives, goes_given, goes_tidy, lives_own, made_new, step_makes}
use Rattle.fl_history_laws.specs.laws.Living.{born, living_lives, none_absent}
use Rattle.fl_history_laws.specs.laws.Stories.{living}

pub moves_makes : {w : World} {pid : Pid} {after : World} (move : Move) → Moves w move (made pid) after
    → WorldGives w after pid
moves_makes {w} {pid} (Happens event) h = step_makes w pid h
moves_makes (Comes number k) h = elim h [ ]
moves_makes (Returns number k) h = elim h [ ]

pub lives_given : {w : World} {pid : Pid} {p : Process} → IsNamed w → AllTidy w → Lives w pid p → WasGivenIn w pid
lives_given {w} {pid} {p} named tidy l =
    (lives_own w pid.node l.node pid p named tidy l.there l.stands).given

pub stays_away : {w : World} {pid : Pid} (m : Moment) → IsNamed w → AllTidy w → WasGivenIn w pid
    → Moves w m.move m.reply m.after → living w pid ≡ None → living m.after pid ≡ None
stays_away {w} {pid} m named tidy given moves none = by_one (living m.after pid) refl
  where
    by_one : (o : Option Process) → living m.after pid ≡ o → o ≡ None
    by_one None e = refl
    by_one (Some child) e =
        let birth = born tidy moves pid child (none_absent none) (living_lives m.after pid child e) in
        let makes = moves_makes m.move (subst (λ r. Moves w m.move r m.after) birth.answered moves) in
        absurd (made_new w named tidy makes given)

pub run_away : (w : World) (ms : List Moment) {pid : Pid} → IsNamed w → AllTidy w → WasGivenIn w pid → IsRun w ms
    → living w pid ≡ None → living (end w ms) pid ≡ None
run_away w [] named tidy given run none = none
run_away w (m ∷ ms) named tidy given run none =
    let goes = moves_goes w m.move m.reply m.after run.0 in
    run_away m.after ms (goes_named named goes) (goes_tidy tidy goes) (goes_given tidy goes given) run.1
    (stays_away m named tidy given run.0 none)
