-- Why a node does nothing, by its state.
use Rattle.std.specs.Prelude.{◌≡◌}
use Rattle.fl_jobs.specs.declared.answer.Refusal.TheVariants.{Busy}
use Rattle.fl_system.specs.declared.answer.Fault.{Fault}
use Rattle.fl_system.specs.declared.answer.Fault.TheVariants.{Refused, Stopped as IsStopped}
use Rattle.fl_system.specs.declared.state.Pending.TheVariants.{Nothing, Unsaved, Due}
use Rattle.fl_system.specs.declared.state.State.{State}
use Rattle.fl_system.specs.declared.state.State.TheVariants.{Running, Stopped}

abbrev pub IsRunning : State → Type 0
IsRunning (Running pending) = Unit {0}
IsRunning (Stopped doubt) = ⊥

-- why nothing is done
abbrev pub NotRunning : State → Fault → Type 0
NotRunning (Running pending) f = ⊥
NotRunning (Stopped doubt) f = f ≡ IsStopped

-- why no operation can be begun
abbrev pub IsTaken : State → Fault → Type 0
IsTaken (Running Nothing) f = ⊥
IsTaken (Running (Unsaved batch)) f = f ≡ Refused Busy
IsTaken (Running (Due batch)) f = f ≡ Refused Busy
IsTaken (Stopped doubt) f = f ≡ IsStopped

-- why there is nothing to save
abbrev pub NoneUnsaved : State → Fault → Type 0
NoneUnsaved (Running Nothing) f = f ≡ Refused Busy
NoneUnsaved (Running (Unsaved batch)) f = ⊥
NoneUnsaved (Running (Due batch)) f = f ≡ Refused Busy
NoneUnsaved (Stopped doubt) f = f ≡ IsStopped

-- why there is nothing to publish
abbrev pub NoneDue : State → Fault → Type 0
NoneDue (Running Nothing) f = f ≡ Refused Busy
NoneDue (Running (Unsaved batch)) f = f ≡ Refused Busy
NoneDue (Running (Due batch)) f = ⊥
NoneDue (Stopped doubt) f = f ≡ IsStopped
