-- The emission that a guarded order asks first.
use Rattle.std.specs.Prelude.{◌≡◌, ◌≢◌, ◌⊎◌, ℕ, Bool, true, false}
use Rattle.std.specs.declared.option.Option.TheVariants.{None, Some}
use Rattle.fl_labels.specs.declared.pid.Pid.{Pid}
use Rattle.fl_jobs.specs.declared.job.Job.{Job}
use Rattle.fl_store.specs.Custody.{Custody}
use Rattle.fl_node.specs.Over.{NodeOver}
use Rattle.fl_calls.specs.Completing.{starved}
use Rattle.fl_machine_model.specs.Acts.{Saying, Replies}
use Rattle.fl_machine_turns.specs.Guarding.{emits_nothing, let_out, maker_of}
use Rattle.fl_machine_calls.specs.Going.{GoesAlone}

-- it is not admitted, or there is no room for it
pub data IsHeldBack {K : Type 0} (custody : Custody K) (old : NodeOver K) (pid : Pid)
    : ℕ → Saying → NodeOver K → Type 0 where
  no_room : IsHeldBack custody old pid 0 (Replies starved) old
  refused : {count : ℕ} {saying : Saying} {new : NodeOver K}
      → GoesAlone custody old (emits_nothing pid) count saying new → saying ≢ let_out
      → IsHeldBack custody old pid count saying new

-- nothing is asked first of the job, or it was admitted, with so much noted
pub data MayGoOn {K : Type 0} (custody : Custody K) (old : NodeOver K) (guards : Bool) (job : Job)
    : ℕ → NodeOver K → Type 0 where
  free : (guards ≡ false) ⊎ (maker_of job ≡ None) → MayGoOn custody old guards job 0 old
  passes : {pid : Pid} {count : ℕ} {new : NodeOver K} → guards ≡ true → maker_of job ≡ Some pid
      → GoesAlone custody old (emits_nothing pid) count let_out new
      → MayGoOn custody old guards job count new

-- the job is an order, which asks first, and is held back
pub record MayNotGoOn {K : Type 0} (custody : Custody K) (old : NodeOver K) (guards : Bool)
    (job : Job) (count : ℕ) (saying : Saying) (new : NodeOver K)
    : Type 0 where
  pub guarded : guards ≡ true
  pub pid : Pid
  pub maker : maker_of job ≡ Some pid
  pub held : IsHeldBack custody old pid count saying new
