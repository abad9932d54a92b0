-- How processes come to own capabilities, and to lose them.
use Rattle.std.specs.Prelude.{◌≡◌, ◌++◌, ◌∷◌, List}
use Rattle.std.specs.List.{Contains}
use Rattle.fl_labels.specs.Cap.{cap_cmp}
use Rattle.fl_labels.specs.SetBy.{SetBy, In}
use Rattle.fl_labels.specs.declared.cap.Cap.{Cap}
use Rattle.fl_labels.specs.declared.name.Name.{Name}
use Rattle.fl_labels.specs.declared.pid.Pid.{Pid}
use Rattle.fl_ops.specs.declared.op.Op.{Op}
use Rattle.fl_message.specs.declared.message.Data.{Data}
use Rattle.fl_jobs.specs.declared.secret.Secret.{Secret}
use Rattle.fl_jobs.specs.declared.job.Act.TheVariants.{Drop, Enter, Spawn}
use Rattle.fl_jobs.specs.declared.job.Job.TheVariants.{By}
use Rattle.fl_jobs.specs.declared.answer.Reply.TheVariants.{Arrived, Done, Entered}
use Rattle.fl_bench.specs.Gifts.{given}
use Rattle.fl_bench.specs.Process.{owns}
use Rattle.fl_bench.specs.declared.process.Process.{Process}
use Rattle.fl_system.specs.declared.reply.Reply.{Reply}
use Rattle.fl_system.specs.declared.reply.Reply.TheVariants.{Job as Answered}
use Rattle.fl_system.specs.Runs.{Move, Moment, end}
use Rattle.fl_system.specs.Taint.{Lives}
use Rattle.fl_system.specs.World.{World}
use Rattle.fl_history_laws.specs.Seats.{made}
use Rattle.fl_history_laws.specs.Doing.{Brings, IsDone, IsPublished}

-- a process of this pid lives, and owns the capability
pub record Owns (w : World) (pid : Pid) (c : Cap) : Type 0 where
  pub process : Process
  pub lives : Lives w pid process
  pub owned : In (owns process) c

-- The move, answered so, gives the process the capability: an operation of its own is published that gives it, it is born with
-- it, it enters it by a secret, or a message that comes brings it.
pub data Gains (w : World) (move : Move) (reply : Reply) (pid : Pid) (c : Cap) : Type 0 where
  made_it : {op : Op} → IsPublished w move reply pid op → Contains (given op) c → Gains w move reply pid c
  born_with : {parent : Pid} {caps : SetBy cap_cmp} → IsDone w move pid.node (By parent (Spawn caps))
      → reply ≡ made pid → In caps c → Gains w move reply pid c
  entered : {login : Name} {secret : Secret} → IsDone w move pid.node (By pid (Enter login secret))
      → reply ≡ Answered (Entered c) → Gains w move reply pid c
  arrived : {d : Data} → Brings w move pid.node d → d.receiver ≡ pid → reply ≡ Answered (Arrived pid)
      → In d.message.caps c → Gains w move reply pid c

-- the process gives the capability up
pub record GivesUp (w : World) (move : Move) (reply : Reply) (pid : Pid) (c : Cap) : Type 0 where
  pub done : IsDone w move pid.node (By pid (Drop c))
  pub answered : reply ≡ Answered Done

-- one of these moments, after those before it, gave the process the capability
pub record WasGiven (w : World) (ms : List Moment) (pid : Pid) (c : Cap) : Type 0 where
  pub first : List Moment
  pub moment : Moment
  pub later : List Moment
  pub moments_are : ms ≡ first ++ (moment ∷ later)
  pub gains : Gains (end w first) moment.move moment.reply pid c
