-- Why a node tells nothing.
use Rattle.std.specs.Prelude.{◌≡◌, ◌<◌, ◌⊎◌, length}
use Rattle.fl_opset.specs.Windows.{lacking}
use Rattle.fl_opset.specs.declared.intervals.Intervals.{Intervals}
use Rattle.fl_jobs.specs.declared.answer.Refusal.TheVariants.{Memory}
use Rattle.fl_system.specs.declared.answer.Fault.{Fault}
use Rattle.fl_system.specs.declared.answer.Fault.TheVariants.{Refused}
use Rattle.fl_system.specs.declared.state.State.{State}
use Rattle.fl_system.specs.State.{NodeState}
use Rattle.fl_system.specs.Waiting.{IsRunning, NotRunning}

-- it is stopped, or there is no memory for what it would tell
abbrev pub TellsNothing : State → Fault → Type 0
TellsNothing state fault = NotRunning state fault ⊎ (IsRunning state × (fault ≡ Refused Memory))

-- it is stopped, or the window lacks something, and there is no memory for that
abbrev pub AnswersNothing : NodeState → Intervals → Fault → Type 0
AnswersNothing n window fault =
    NotRunning n.state fault
    ⊎ (IsRunning n.state × (fault ≡ Refused Memory) × (0 < length (lacking n.saved window)))
