-- The kinds of jobs: one for each line of their table.
use Rattle.std.specs.declared.result.Result.{Result}
use Rattle.std.specs.Prelude.{ℕ, List}
use Rattle.fl_labels.specs.Cap.{cap_cmp}
use Rattle.fl_labels.specs.Name.{name_cmp}
use Rattle.fl_labels.specs.SetBy.{SetBy}
use Rattle.fl_labels.specs.declared.cap.Cap.{Cap}
use Rattle.fl_labels.specs.declared.name.Name.{Name}
use Rattle.fl_labels.specs.declared.pid.Pid.{Pid}
use Rattle.fl_labels.specs.declared.endpoint.Endpoint.{Endpoint}
use Rattle.fl_ops.specs.declared.op.Policy.{Policy}
use Rattle.fl_rules.specs.declared.endpoint.Mode.{Mode}
use Rattle.fl_message.specs.declared.message.Data.{Data}
use Rattle.fl_message.specs.declared.message.Message.{Message}
use Rattle.fl_jobs.specs.declared.job.Side.{Side}
use Rattle.fl_jobs.specs.declared.job.TooLong.{TooLong}
use Rattle.fl_jobs.specs.declared.secret.Secret.{Secret}
use Rattle.fl_jobs.specs.declared.job.Order.TheVariants.{Tag, Group, Put, MakeLogin, OpenGroup}
use Rattle.fl_jobs.specs.declared.job.Act.TheVariants.{Order as Orders, Relabel, Ask, Spawn, Exit, Drop, Enter, Emit, Mail as Mailbox}
use Rattle.fl_jobs.specs.declared.job.Mail.TheVariants.{Open, Tune, Close, Send, Take}
use Rattle.fl_jobs.specs.declared.job.GivenLabels.{GivenLabels}
use Rattle.fl_jobs.specs.declared.job.Job.{Job}
use Rattle.fl_jobs.specs.declared.job.Job.TheVariants.{Proc, By, Member, Arrive}

-- a job by its kind alone, so that two jobs are told apart in one step
pub data Kind : Job → Type 0 where
  proc : Kind Proc
  tag : (p : Pid) (policy : Policy) → Kind (By p (Orders (Tag policy)))
  group : (p : Pid) → Kind (By p (Orders Group))
  put : (p : Pid) (group : Name) (cap : Cap) → Kind (By p (Orders (Put group cap)))
  make_login : (p : Pid) (cap : Cap) (secret : Secret) → Kind (By p (Orders (MakeLogin cap secret)))
  open_group : (p : Pid) (group : Name) → Kind (By p (Orders (OpenGroup group)))
  relabel : (p : Pid) (side : Side) (label : Result (SetBy name_cmp) TooLong) → Kind (By p (Relabel side label))
  ask : (p : Pid) (cap : Cap) → Kind (By p (Ask cap))
  spawn : (p : Pid) (caps : SetBy cap_cmp) → Kind (By p (Spawn caps))
  exit : (p : Pid) → Kind (By p Exit)
  drop : (p : Pid) (cap : Cap) → Kind (By p (Drop cap))
  enter : (p : Pid) (login : Name) (secret : Secret) → Kind (By p (Enter login secret))
  emit : (p : Pid) (bytes : List ℕ) → Kind (By p (Emit bytes))
  opens : (p : Pid) (mode : Mode) (given : GivenLabels) → Kind (By p (Mailbox (Open mode given)))
  tune : (p : Pid) (endpoint : Endpoint) (given : GivenLabels) → Kind (By p (Mailbox (Tune endpoint given)))
  close : (p : Pid) (endpoint : Endpoint) → Kind (By p (Mailbox (Close endpoint)))
  send : (p : Pid) (from : Endpoint) (receiver : Pid) (to : Endpoint) (message : Message) → Kind (By p (Mailbox (Send from receiver to message)))
  take : (p : Pid) → Kind (By p (Mailbox Take))
  member : (root cap : Cap) → Kind (Member root cap)
  arrive : (packet : Data) → Kind (Arrive packet)

pub kind_of : (job : Job) → Kind job
kind_of Proc = proc
kind_of (By p (Orders (Tag x))) = tag p x
kind_of (By p (Orders Group)) = group p
kind_of (By p (Orders (Put into c))) = put p into c
kind_of (By p (Orders (MakeLogin c secret))) = make_login p c secret
kind_of (By p (Orders (OpenGroup opened))) = open_group p opened
kind_of (By p (Relabel x l)) = relabel p x l
kind_of (By p (Ask c)) = ask p c
kind_of (By p (Spawn caps)) = spawn p caps
kind_of (By p Exit) = exit p
kind_of (By p (Drop c)) = drop p c
kind_of (By p (Enter login secret)) = enter p login secret
kind_of (By p (Emit bytes)) = emit p bytes
kind_of (By p (Mailbox (Open mode given))) = opens p mode given
kind_of (By p (Mailbox (Tune e given))) = tune p e given
kind_of (By p (Mailbox (Close e))) = close p e
kind_of (By p (Mailbox (Send from receiver to message))) = send p from receiver to message
kind_of (By p (Mailbox Take)) = take p
kind_of (Member r c) = member r c
kind_of (Arrive d) = arrive d
