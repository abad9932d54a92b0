-- What an order asks first, where orders are guarded: everybody reads them, so who may let nothing
-- out gives none.
use Rattle.std.specs.Prelude.{◌≡◌, ◌≢◌, ◌⊎◌, ℕ, Bool, true, false, List, [], ◌∷◌}
use Rattle.std.specs.declared.option.Option.{Option}
use Rattle.std.specs.declared.option.Option.TheVariants.{None, Some}
use Rattle.fl_labels.specs.declared.pid.Pid.{Pid}
use Rattle.fl_jobs.specs.declared.answer.Reply.TheVariants.{Emitted}
use Rattle.fl_jobs.specs.declared.job.Act.TheVariants.{Order, Emit}
use Rattle.fl_jobs.specs.declared.job.Job.{Job}
use Rattle.fl_jobs.specs.declared.job.Job.TheVariants.{By}
use Rattle.fl_system.specs.declared.reply.Reply.TheVariants.{Job as Answered}
use Rattle.fl_system.specs.World.{KeptNode}
use Rattle.fl_calls.specs.Completing.{starved}
use Rattle.fl_machine_model.specs.Acts.{Act, Saying, Replies, Outcome}
use Rattle.fl_machine_model.specs.Acts as acts
use Rattle.fl_machine_model.specs.Alone.{MachineStep}
use Rattle.fl_machine_turns.specs.Done.{Did, did}

-- at the only desk of the node, which sees all that is published
abbrev pub job_at : Job → Act
job_at job = acts.Job 1 18446744073709551615 job

-- the process whose order the job is
abbrev pub maker_of : Job → Option Pid
maker_of (By pid (Order order)) = Some pid
maker_of job = None

-- an emission without a byte
abbrev pub emits_nothing : Pid → Act
emits_nothing pid = job_at (By pid (Emit []))

-- it was admitted
abbrev pub let_out : Saying
let_out = Replies (Answered (Emitted []))

-- The job is done so, unless it is an order whose process may let nothing out: of such a one only
-- the emission is done, and its refusal is what is said.
pub data Guarded (number : ℕ) (guards : Bool) (s : KeptNode) (job : Job)
    (Does : KeptNode → Act → List Did → Saying → KeptNode → Type 0)
    : List Did → Saying → KeptNode → Type 0 where
  free : {ds : List Did} {saying : Saying} {s' : KeptNode}
      → (guards ≡ false) ⊎ (maker_of job ≡ None) → Does s (job_at job) ds saying s'
      → Guarded number guards s job Does ds saying s'
  held_back : {pid : Pid} {o : Outcome} → guards ≡ true → maker_of job ≡ Some pid
      → MachineStep number s (emits_nothing pid) o → o.says ≢ let_out
      → Guarded number guards s job Does (did (emits_nothing pid) o ∷ []) o.says o.after
  passes : {pid : Pid} {o : Outcome} {ds : List Did} {saying : Saying} {s' : KeptNode}
      → guards ≡ true → maker_of job ≡ Some pid
      → MachineStep number s (emits_nothing pid) o → o.says ≡ let_out
      → Does o.after (job_at job) ds saying s'
      → Guarded number guards s job Does (did (emits_nothing pid) o ∷ ds) saying s'
  -- there is no room for the emission
  no_room : {pid : Pid} → guards ≡ true → maker_of job ≡ Some pid
      → Guarded number guards s job Does [] (Replies starved) s
