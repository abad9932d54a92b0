-- Grants among machines: how capabilities are handed on, from the maker of their name on. No
-- machine brings an operation, so there is no other beginning.
use Rattle.std.specs.Prelude.{◌≡◌, ◌<◌, ℕ, suc, List}
use Rattle.std.specs.List.{Contains, slice_get}
use Rattle.std.specs.declared.option.Option.{Option}
use Rattle.std.specs.declared.option.Option.TheVariants.{Some}
use Rattle.fl_labels.specs.Cap.{cap_cmp}
use Rattle.fl_labels.specs.Found.{Within}
use Rattle.fl_labels.specs.SetBy.{SetBy, In}
use Rattle.fl_labels.specs.declared.cap.Cap.{Cap}
use Rattle.fl_labels.specs.declared.cap.Cap.TheVariants.{Use}
use Rattle.fl_labels.specs.declared.name.Name.{Name}
use Rattle.fl_labels.specs.declared.pid.Pid.{Pid}
use Rattle.fl_ops.specs.Registry.{Registry, Puts, login_op}
use Rattle.fl_ops.specs.declared.op.Body.TheVariants as bodies
use Rattle.fl_ops.specs.declared.op.Op.{Op}
use Rattle.fl_jobs.specs.declared.answer.Reply.TheVariants.{Entered}
use Rattle.fl_jobs.specs.declared.job.Act.TheVariants.{Enter, Order, Spawn}
use Rattle.fl_jobs.specs.declared.job.Job.{Job as AnyJob}
use Rattle.fl_jobs.specs.declared.job.Job.TheVariants.{By}
use Rattle.fl_jobs.specs.declared.job.Order as orders
use Rattle.fl_jobs.specs.declared.secret.Secret.{Secret}
use Rattle.fl_bench.specs.Gifts.{given}
use Rattle.fl_bench.specs.Process.{body_of, effective, order_takes}
use Rattle.fl_bench.specs.Secrets.{digest_of}
use Rattle.fl_bench.specs.declared.process.Process.{Process}
use Rattle.fl_system.specs.declared.reply.Reply.{Reply}
use Rattle.fl_system.specs.declared.reply.Reply.TheVariants.{Begun, Published, Job as Answered}
use Rattle.fl_system.specs.declared.state.Batch.TheVariants.{Ordered}
use Rattle.fl_system.specs.declared.state.Pending.TheVariants.{Due}
use Rattle.fl_system.specs.declared.state.State.TheVariants.{Running}
use Rattle.fl_system.specs.World.{KeptNode}
use Rattle.fl_history_laws.specs.Seats.{made}
use Rattle.fl_authority_laws.specs.Authority.{Bearer, Living, Written, HandsOn}
use Rattle.fl_machine_model.specs.Acts.{Job, Publish, Replies}
use Rattle.fl_machine_model.specs.Machines.{Machines, Acts, Turn}
use Rattle.fl_machine_laws.specs.Places.{AllSaved, IsUp, LivesOn}
use Rattle.fl_machine_laws.specs.Taint.{machines_at, IsSendingOn, IsArrivalOn}

-- ---- who has a capability

-- saved by a process that runs
abbrev pub SavedByRunning : Machines → Registry
SavedByRunning m op = (number : ℕ) × (s : KeptNode) × IsUp m number s × In s.node.saved op

-- the process stands at its machine, and has the capability in effect by these operations
pub record HasBy (U : Registry) (m : Machines) (pid : Pid) (c : Cap) : Type 0 where
  pub process : Process
  pub lives : LivesOn m pid process
  pub able : effective U process c

-- by all that is saved on any machine
abbrev pub HasOn : Machines → Pid → Cap → Type 0
HasOn m = HasBy (AllSaved m) m

-- ---- kinds of turns

-- at the machine of this number the job is done, and answered so
pub record IsJobOn (t : Turn) (number : ℕ) (job : AnyJob) (reply : Reply) : Type 0 where
  pub desk : ℕ
  pub upto : ℕ
  pub is : t.deed ≡ Acts number (Job desk upto job) (Replies reply)

-- the operation, which its maker ordered, is published by the maker's machine
pub record IsMakingOn (m : Machines) (t : Turn) (maker : Pid) (op : Op) : Type 0 where
  pub s : KeptNode
  pub up : IsUp m maker.node s
  pub desk : Option ℕ
  pub due : s.node.state ≡ Running (Due (Ordered op (Some maker) desk))
  pub is : t.deed ≡ Acts maker.node Publish (Replies (Published op.name))

-- the process orders the operation, which is begun
pub record IsOrderingOn (m : Machines) (t : Turn) (pid : Pid) (op : Op) : Type 0 where
  pub order : orders.Order
  pub done : IsJobOn t pid.node (By pid (Order order)) (Begun op.name)
  pub body_is : op.body ≡ body_of order
  -- it has in effect all that the order takes
  pub process : Process
  pub lives : LivesOn m pid process
  pub takes : Within (In (order_takes order)) (effective (AllSaved m) process)

-- ---- grants

-- After i turns the capability was granted to the bearer, by grants of which each giver had it in
-- effect when it gave, from the maker of its name on.
pub data IsGrantedOn (m : Machines) (ts : List Turn) : ℕ → Bearer → Cap → Type 0 where
  -- it made the name
  makes : {i : ℕ} {t : Turn} {pid : Pid} {op : Op} {c : Cap} → slice_get ts i ≡ Some t
      → IsMakingOn (machines_at m ts i) t pid op → Contains (given op) c
      → IsGrantedOn m ts (suc i) (Living pid) c
  later : {i : ℕ} {b : Bearer} {c : Cap} → IsGrantedOn m ts i b c → IsGrantedOn m ts (suc i) b c
  -- its parent bore it with the capability
  born : {i : ℕ} {t : Turn} {parent child : Pid} {caps : SetBy cap_cmp} {c : Cap}
      → IsGrantedOn m ts i (Living parent) c → HasOn (machines_at m ts i) parent c
      → slice_get ts i ≡ Some t → IsJobOn t child.node (By parent (Spawn caps)) (made child)
      → In caps c → IsGrantedOn m ts (suc i) (Living child) c
  -- a message with the capability was sent, and arrives later, perhaps at another machine
  received : {i j packet : ℕ} {t t' : Turn} {sender receiver : Pid} {c : Cap}
      → IsGrantedOn m ts i (Living sender) c → HasOn (machines_at m ts i) sender c
      → slice_get ts i ≡ Some t → (sends : IsSendingOn (machines_at m ts i) t sender packet)
      → i < j → slice_get ts j ≡ Some t' → IsArrivalOn t' packet receiver
      → sends.receiver ≡ receiver → In sends.message.caps c
      → IsGrantedOn m ts (suc j) (Living receiver) c
  -- it enters a login that was made for the capability
  entered : {i : ℕ} {t : Turn} {pid : Pid} {login : Name} {secret : Secret} {c : Cap}
      → IsGrantedOn m ts i (Written (login_op login c (digest_of secret))) c
      → AllSaved (machines_at m ts i) (login_op login c (digest_of secret))
      → slice_get ts i ≡ Some t
      → IsJobOn t pid.node (By pid (Enter login secret)) (Answered (Entered c))
      → IsGrantedOn m ts (suc i) (Living pid) c
  -- it may use a group into which the capability is put
  uses : {i : ℕ} {pid : Pid} {op : Op} {group : Name} {c : Cap}
      → IsGrantedOn m ts i (Living pid) (Use group) → IsGrantedOn m ts i (Written op) c
      → AllSaved (machines_at m ts i) op → Puts op.body group c
      → IsGrantedOn m ts i (Living pid) c
  -- the group is opened to everybody
  opened : {i : ℕ} {pid : Pid} {op : Op} {group : Name}
      → IsGrantedOn m ts i (Written op) (Use group) → AllSaved (machines_at m ts i) op
      → op.body ≡ bodies.Open group → IsGrantedOn m ts i (Living pid) (Use group)
  -- the operation hands on what the process has that orders it
  ordered : {i : ℕ} {t : Turn} {pid : Pid} {op : Op} {c : Cap}
      → IsGrantedOn m ts i (Living pid) c → HasOn (machines_at m ts i) pid c
      → slice_get ts i ≡ Some t → IsOrderingOn (machines_at m ts i) t pid op
      → HandsOn op.body c → IsGrantedOn m ts (suc i) (Written op) c

-- ---- who makes a name, and who hands a capability on

-- at one of the turns the process made the name of the capability
pub record IsMakerOn (m : Machines) (ts : List Turn) (pid : Pid) (c : Cap) : Type 0 where
  pub moment : ℕ
  pub turn : Turn
  pub at : slice_get ts moment ≡ Some turn
  pub op : Op
  pub making : IsMakingOn (machines_at m ts moment) turn pid op
  pub gives : Contains (given op) c

-- the process bears a child with the capability, a message of its own with the capability arrives,
-- or an operation is saved that it ordered and that hands it on
pub data GivesOn (m : Machines) (ts : List Turn) (pid : Pid) (c : Cap) : Type 0 where
  bears : (i : ℕ) {t : Turn} {child : Pid} {caps : SetBy cap_cmp} → slice_get ts i ≡ Some t
      → IsJobOn t child.node (By pid (Spawn caps)) (made child) → In caps c
      → GivesOn m ts pid c
  sends : (i j : ℕ) {packet : ℕ} {t t' : Turn} → slice_get ts i ≡ Some t
      → (sends : IsSendingOn (machines_at m ts i) t pid packet) → i < j
      → slice_get ts j ≡ Some t' → IsArrivalOn t' packet sends.receiver
      → In sends.message.caps c → GivesOn m ts pid c
  orders_it : (i j : ℕ) {t : Turn} {op : Op} → slice_get ts i ≡ Some t
      → IsOrderingOn (machines_at m ts i) t pid op → HandsOn op.body c
      → AllSaved (machines_at m ts j) op → GivesOn m ts pid c
