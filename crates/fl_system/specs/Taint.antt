-- Taint: which processes a tag reaches in a run without ever meeting one that could remove it.
use Rattle.std.specs.Prelude.{◌≡◌, ◌<◌, ℕ, suc, List, take}
use Rattle.std.specs.List.{slice_get}
use Rattle.std.specs.declared.option.Option.TheVariants.{Some}
use Rattle.fl_labels.specs.Cap.{cap_cmp}
use Rattle.fl_labels.specs.SetBy.{SetBy, In}
use Rattle.fl_labels.specs.declared.cap.Cap.TheVariants.{Minus}
use Rattle.fl_labels.specs.declared.endpoint.Endpoint.{Endpoint}
use Rattle.fl_labels.specs.declared.name.Name.{Name}
use Rattle.fl_labels.specs.declared.pid.Pid.{Pid}
use Rattle.fl_message.specs.declared.message.Message.{Message}
use Rattle.fl_jobs.specs.declared.job.Act.TheVariants.{Spawn, Emit, Mail}
use Rattle.fl_jobs.specs.declared.job.Job.TheVariants.{By}
use Rattle.fl_jobs.specs.declared.job.Mail.TheVariants.{Send}
use Rattle.fl_jobs.specs.declared.answer.Reply.TheVariants.{Made, Emitted, Arrived}
use Rattle.fl_bench.specs.Process.{effective}
use Rattle.fl_bench.specs.declared.process.Process.{Process}
use Rattle.fl_system.specs.declared.event.Event.TheVariants.{Job, Deliver}
use Rattle.fl_system.specs.declared.reply.Reply.TheVariants.{Job as Answered, Sent}
use Rattle.fl_system.specs.Processes.{process_of}
use Rattle.fl_system.specs.Union.{Union}
use Rattle.fl_system.specs.World.{World, KeptNode}
use Rattle.fl_system.specs.WorldSteps.{IsAt}
use Rattle.fl_system.specs.Runs.{Moment, Happens, end}

-- the world after the first i moments
abbrev pub world_at : World → List Moment → ℕ → World
world_at w ms i = end w (take i ms)

-- the process stands at its node in the world
pub record Lives (w : World) (pid : Pid) (p : Process) : Type 0 where
  pub node : KeptNode
  pub there : IsAt w pid.node node
  pub stands : process_of node.node pid ≡ Some p

-- ---- kinds of moments

-- the parent bears the child
pub record IsBearing (m : Moment) (parent child : Pid) : Type 0 where
  pub number : ℕ
  pub desk : ℕ
  pub upto : ℕ
  pub caps : SetBy cap_cmp
  pub asked : m.move ≡ Happens (Job number desk upto (By parent (Spawn caps)))
  pub answered : m.reply ≡ Answered (Made child)

-- the process sends a message, as the packet of this number
pub record IsSendingOf (m : Moment) (sender : Pid) (packet : ℕ) : Type 0 where
  pub number : ℕ
  pub desk : ℕ
  pub upto : ℕ
  pub from : Endpoint
  pub receiver : Pid
  pub to : Endpoint
  pub message : Message
  pub asked : m.move ≡ Happens (Job number desk upto (By sender (Mail (Send from receiver to message))))
  pub answered : m.reply ≡ Sent packet 1

-- the packet of this number arrives at the process
pub record IsArrivalAt (m : Moment) (packet : ℕ) (receiver : Pid) : Type 0 where
  pub number : ℕ
  pub asked : m.move ≡ Happens (Deliver packet number)
  pub answered : m.reply ≡ Answered (Arrived receiver)

-- bytes of the process go to the outside
pub record IsEmission (m : Moment) (pid : Pid) : Type 0 where
  pub number : ℕ
  pub desk : ℕ
  pub upto : ℕ
  pub bytes : List ℕ
  pub asked : m.move ≡ Happens (Job number desk upto (By pid (Emit bytes)))
  pub answered : m.reply ≡ Answered (Emitted bytes)

-- ---- taint

-- at some moment of the run the process has the tag's minus in effect, by all that is saved in the end
pub record IsHeld (w : World) (ms : List Moment) (tag : Name) (pid : Pid) : Type 0 where
  pub moment : ℕ
  pub process : Process
  pub lives : Lives (world_at w ms moment) pid process
  pub held : effective (Union (end w ms)) process (Minus tag)

-- By moment i the tag has reached the process, along processes that never hold its minus.
pub data IsPure (w : World) (ms : List Moment) (tag : Name) : ℕ → Pid → Type 0 where
  -- it is in the process's label
  labelled : {i : ℕ} {pid : Pid} {p : Process} → Lives (world_at w ms i) pid p
      → In p.labels.secrecy tag → ¬ IsHeld w ms tag pid → IsPure w ms tag i pid
  later : {i : ℕ} {pid : Pid} → IsPure w ms tag i pid → IsPure w ms tag (suc i) pid
  -- it had reached the parent when that bore the child
  born : {i : ℕ} {m : Moment} {parent child : Pid} → IsPure w ms tag i parent → slice_get ms i ≡ Some m
      → IsBearing m parent child → ¬ IsHeld w ms tag child → IsPure w ms tag (suc i) child
  -- it had reached the sender when that sent a message, which arrives later
  received : {i j packet : ℕ} {m m' : Moment} {sender receiver : Pid} → IsPure w ms tag i sender
      → slice_get ms i ≡ Some m → IsSendingOf m sender packet → i < j
      → slice_get ms j ≡ Some m' → IsArrivalAt m' packet receiver
      → ¬ IsHeld w ms tag receiver → IsPure w ms tag (suc j) receiver
