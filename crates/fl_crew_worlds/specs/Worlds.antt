-- What a batch of a crew is in a world: a run, from where the crew stands for a node to where it
-- stands for one again.
use Rattle.std.specs.Prelude.{◌≡◌, ◌<◌, ◌+◌, ◌++◌, ℕ, false, List, [], ◌∷◌, length}
use Rattle.std.specs.List.{Contains}
use Rattle.fl_labels.specs.declared.name.Name.{Name}
use Rattle.fl_jobs.specs.declared.answer.Refusal.TheVariants.{Memory}
use Rattle.fl_jobs.specs.declared.job.Job.{Job}
use Rattle.fl_system.specs.declared.answer.Fault.TheVariants as faults
use Rattle.fl_system.specs.declared.event.Event.{Event}
use Rattle.fl_system.specs.declared.event.Event.TheVariants as events
use Rattle.fl_system.specs.declared.reply.Reply.{Reply}
use Rattle.fl_system.specs.declared.reply.Reply.TheVariants as replies
use Rattle.fl_system.specs.declared.sent.Sent.{Sent}
use Rattle.fl_system.specs.Runs.{Moment, IsRun, Happens, end}
use Rattle.fl_system.specs.State.{NodeState, kept_of}
use Rattle.fl_system.specs.World.{World, KeptNode}
use Rattle.fl_system.specs.WorldSteps.{IsAt}
use Rattle.fl_wire.specs.declared.packet.Packet.{Packet}
use Rattle.fl_crew_model.specs.Crews.{IsCrew}
use Rattle.fl_dealing.specs.Dealt.{procs_behind}
use Rattle.fl_dealing.specs.declared.entry.Entry.{Entry}
use Rattle.fl_workers.specs.Batches.{IsServed, IsStill, items_for}
use Rattle.fl_workers.specs.Over.{CrewOver, books_of, bench_at}
use Rattle.fl_crew_calls.specs.Told.{all_sent, replies_behind}
use Rattle.fl_one_worker_calls.specs.Worlds.{IsElsewhere}

-- The node is the crew's, with a desk and a bench for each worker. The next process of the node is
-- born on one of them, and that of the crew too, but maybe on another.
pub record IsNodeOf {K : Type 0} (c : CrewOver K) (n : NodeState) : Type 0 where
  pub crew : IsCrew c.node.node.number c.size n (books_of c) (bench_at c.benches)
      (λ w. length c.list)
  pub boot : n.boot ≡ c.node.node.boot
  pub births : n.procs < c.size
  pub births_here : c.procs < c.size

-- the node of this number is the crew's, and what is kept of it is what it saved
pub record Stands {K : Type 0} (w : World) (number : ℕ) (c : CrewOver K) : Type 0 where
  pub place : KeptNode
  pub there : IsAt w number place
  pub is_node : IsNodeOf c place.node
  pub kept : place.kept ≡ kept_of place.node

-- a batch was served, as a call of a crew says of its entries, and the crew is not stopped
pub record IsDone {K : Type 0} (old new : CrewOver K) (jobs : List Job) (packets : List Packet)
    (es : List Entry) : Type 0 where
  pub runs : new.stopped ≡ false
  pub still : IsStill old new
  pub count : length es ≡ length jobs + length packets
  pub procs : new.procs ≡ procs_behind old.size old.procs (items_for jobs packets)
  pub served : IsServed old new (items_for jobs packets) es

-- ---- what the moments of a run answer

-- one of the moments is this event, which is answered so
pub record Has (ms : List Moment) (what : Event) (reply : Reply) : Type 0 where
  pub moment : Moment
  pub there : Contains ms moment
  pub happens : moment.move ≡ Happens what
  pub answered : moment.reply ≡ reply

-- there was not enough memory
abbrev pub starved : Reply
starved = replies.Refused (faults.Refused Memory)

-- What an event is answered in a world, and what is replied over crews. It is the same, but that a
-- message has another number, and that an operation is only begun in a world: some moment publishes
-- what was begun at the node, or finds no memory for that.
pub data Means (number : ℕ) (ms : List Moment) : Reply → Reply → Type 0 where
  same : {reply : Reply} → Means number ms reply reply
  sent : {first other : ℕ} → Means number ms (replies.Sent first 1) (replies.Sent other 1)
  published : {name : Name} → Has ms (events.Publish number) (replies.Published name)
      → Means number ms (replies.Begun name) (replies.Published name)
  late : {name : Name} → Has ms (events.Publish number) starved
      → Means number ms (replies.Begun name) starved
  took : {count : ℕ} → Has ms (events.Publish number) (replies.Took count)
      → Means number ms (replies.Taking count) (replies.Took count)
  took_late : {count : ℕ} → Has ms (events.Publish number) starved
      → Means number ms (replies.Taking count) starved

-- one of the moments is the job, at a desk of the node, and what it is answered means this reply
pub record IsDoneIn (number : ℕ) (ms : List Moment) (job : Job) (reply : Reply) : Type 0 where
  pub desk : ℕ
  pub upto : ℕ
  pub first : Reply
  pub there : Has ms (events.Job number desk upto job) first
  pub means : Means number ms first reply

-- so is each job of a batch, in the order of its places
abbrev pub AllDoneIn : ℕ → List Moment → List Job → List Reply → Type 0
AllDoneIn number ms [] [] = Unit {0}
AllDoneIn number ms (job ∷ jobs) (reply ∷ later) =
    IsDoneIn number ms job reply × AllDoneIn number ms jobs later
AllDoneIn number ms [] (reply ∷ later) = ⊥
AllDoneIn number ms (job ∷ jobs) [] = ⊥

-- one of the moments is that the packet comes to the node, and what that is answered means this
-- reply
pub record IsTakenIn (number : ℕ) (ms : List Moment) (index : ℕ) (reply : Reply) : Type 0 where
  pub first : Reply
  pub there : Has ms (events.Deliver index number) first
  pub means : Means number ms first reply

-- so is the only reply
pub record IsOnlyTaken (number : ℕ) (ms : List Moment) (index : ℕ) (said : List Reply)
    : Type 0 where
  pub only : Reply
  pub is : said ≡ only ∷ []
  pub taken : IsTakenIn number ms index only

-- each of these packets is among those that were sent
abbrev pub AreAmong : List Packet → List Sent → Type 0
AreAmong packets sents =
    (p : Packet) → Contains packets p → (s : Sent) × Contains sents s × (s.packet ≡ p)

-- ---- runs

-- The moments are a run from the world, and behind them the crew stands for the node of this
-- number. But for that node, what was noted and these packets, which were sent, it is the same
-- world.
pub record Leads {K : Type 0} (w : World) (number : ℕ) (new : CrewOver K) (ms : List Moment)
    (more : List Sent) : Type 0 where
  pub is_run : IsRun w ms
  pub stands : Stands (end w ms) number new
  pub elsewhere : IsElsewhere number w (end w ms)
  pub packets : (end w ms).packets ≡ w.packets ++ more

-- A batch of jobs, with these entries, is a run, in which each job is done, and its message is
-- sent.
pub record RunsJobs {K : Type 0} (w : World) (number : ℕ) (new : CrewOver K) (jobs : List Job)
    (es : List Entry) : Type 0 where
  pub moments : List Moment
  pub more : List Sent
  pub leads : Leads w number new moments more
  pub sends : AreAmong (all_sent es) more
  -- however many packets were sent before it over crews
  pub done : (sent : List Packet) → AllDoneIn number moments jobs (replies_behind sent es)

-- A packet that is a batch of its own, with these entries, is a run, in which it comes to the node.
pub record RunsPacket {K : Type 0} (w : World) (number : ℕ) (new : CrewOver K) (index : ℕ)
    (es : List Entry) : Type 0 where
  pub moments : List Moment
  pub more : List Sent
  pub leads : Leads w number new moments more
  pub sends : AreAmong (all_sent es) more
  pub done : (sent : List Packet) → IsOnlyTaken number moments index (replies_behind sent es)
