-- Endorsement among machines: who may ever claim a tag of integrity, and what may have touched a
-- process.
use Rattle.std.specs.Prelude.{◌≡◌, ◌<◌, ℕ, suc, List}
use Rattle.std.specs.List.{slice_get}
use Rattle.std.specs.declared.option.Option.TheVariants.{Some}
use Rattle.fl_labels.specs.declared.cap.Cap.TheVariants.{Plus}
use Rattle.fl_labels.specs.declared.name.Name.{Name}
use Rattle.fl_labels.specs.declared.pid.Pid.{Pid}
use Rattle.fl_bench.specs.Process.{effective}
use Rattle.fl_bench.specs.declared.process.Process.{Process}
use Rattle.fl_machine_model.specs.Machines.{Machines, Turn, last}
use Rattle.fl_machine_laws.specs.Places.{AllSaved, LivesOn}
use Rattle.fl_machine_laws.specs.Taint.{machines_at, IsBearingOn, IsSendingOn, IsArrivalOn}

-- at some moment the process has the tag's plus in effect, by all that is saved in the end
pub record IsEndorserOn (m : Machines) (ts : List Turn) (tag : Name) (pid : Pid) : Type 0 where
  pub moment : ℕ
  pub process : Process
  pub lives : LivesOn (machines_at m ts moment) pid process
  pub able : effective (AllSaved (last m ts)) process (Plus tag)

-- What the process p was or did after i turns or later may have come to the process by then: that
-- is p itself, or p or one to which it had come bore the process, or sent a message that arrived
-- there, perhaps at another machine. Of each process to which it came so, P holds.
pub data TouchesOn (m : Machines) (ts : List Turn) (P : Pid → Type 0) (i : ℕ) (p : Pid)
    : ℕ → Pid → Type 0 where
  itself : TouchesOn m ts P i p i p
  later : {j : ℕ} {pid : Pid} → TouchesOn m ts P i p j pid → TouchesOn m ts P i p (suc j) pid
  born : {j : ℕ} {t : Turn} {parent child : Pid} → TouchesOn m ts P i p j parent
      → slice_get ts j ≡ Some t → IsBearingOn t parent child → P child
      → TouchesOn m ts P i p (suc j) child
  -- it had come to the sender when that sent the message, which arrives later
  received : {j k packet : ℕ} {t t' : Turn} {sender receiver : Pid}
      → TouchesOn m ts P i p j sender → slice_get ts j ≡ Some t
      → IsSendingOn (machines_at m ts j) t sender packet → j < k → slice_get ts k ≡ Some t'
      → IsArrivalOn t' packet receiver → P receiver → TouchesOn m ts P i p (suc k) receiver
