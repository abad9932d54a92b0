-- Where the packets of a world come from.
use Rattle.std.specs.Prelude.{◌≡◌, ◌⊎◌, ◌++◌, [], ◌∷◌, ℕ, List, length}
use Rattle.std.specs.declared.option.Option.TheVariants.{Some}
use Rattle.fl_labels.specs.declared.pid.Pid.{Pid}
use Rattle.fl_message.specs.declared.message.Data.{Data}
use Rattle.fl_jobs.specs.declared.job.Job.{Job}
use Rattle.fl_bench.specs.Summary.{IsSending}
use Rattle.fl_system.specs.Audit.{party}
use Rattle.fl_system.specs.declared.reply.Reply.{Reply}
use Rattle.fl_system.specs.declared.reply.Reply.TheVariants.{Sent as HasSent}
use Rattle.fl_system.specs.declared.sent.Sent.{Sent}
use Rattle.fl_system.specs.Runs.{Move, Moment, end}
use Rattle.fl_system.specs.Taint.{Lives}
use Rattle.fl_system.specs.World.{World}
use Rattle.fl_system.specs.WorldJobs.{next_packet}
use Rattle.fl_history_laws.specs.Doing.{Brings, IsDone, seen}

-- after the move these packets more were sent, behind those that were there, and its reply says which
pub record Adds (w : World) (reply : Reply) (after : World) : Type 0 where
  pub more : List Sent
  pub behind : after.packets ≡ w.packets ++ more
  pub answered : (more ≡ []) ⊎ (reply ≡ HasSent (next_packet w) (length more))

-- at the move the sender of the message sends it, as this packet: it lives, has the endpoint open to write to, with the labels
-- of the message, and has in effect what the message carries; and the packet says who sent it
pub record Sends (w : World) (move : Move) (sent : Sent) (d : Data) : Type 0 where
  pub job : Job
  pub done : IsDone w move d.sender.node job
  pub sending : IsSending (seen done) done.bench job d
  pub lives : Lives w d.sender sending.process
  pub from_is : sent.from ≡ d.sender.node
  pub sender_is : sent.sender ≡ Some (party d.sender sending.process)

-- one of these moments, after those before it, sent the message as the packet of this number
pub record WasSent (w : World) (ms : List Moment) (k : ℕ) (sent : Sent) (d : Data) : Type 0 where
  pub first : List Moment
  pub moment : Moment
  pub later : List Moment
  pub moments_are : ms ≡ first ++ (moment ∷ later)
  pub answered : moment.reply ≡ HasSent k 1
  pub sends : Sends (end w first) moment.move sent d

-- the move brings the process the message of a packet that was sent to it
pub record Delivers (w : World) (move : Move) (pid : Pid) : Type 0 where
  pub number : ℕ
  pub d : Data
  pub brings : Brings w move number d
  pub receiver_is : d.receiver ≡ pid
