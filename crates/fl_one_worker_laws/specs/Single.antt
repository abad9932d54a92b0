-- The node that a crew of one worker stands for.
use Rattle.std.specs.Prelude.{◌≡◌, ℕ, false, List, [], ◌∷◌, ◌+◌, map, length}
use Rattle.std.specs.declared.option.Option.TheVariants.{None}
use Rattle.std.specs.declared.result.Result.{Result}
use Rattle.fl_labels.specs.SetBy as set
use Rattle.fl_message.specs.declared.message.Data.{Data}
use Rattle.fl_ops.specs.declared.op.Op.{Op}
use Rattle.fl_jobs.specs.declared.job.Job.{Job}
use Rattle.fl_jobs.specs.declared.job.Job.TheVariants.{Arrive}
use Rattle.fl_store.specs.Kept.{Kept}
use Rattle.fl_system.specs.declared.answer.Fault.{Fault}
use Rattle.fl_system.specs.State.{NodeState, kept_of}
use Rattle.fl_wire.specs.declared.packet.Packet.{Packet}
use Rattle.fl_crew_model.specs.declared.record.Told.{Told}
use Rattle.fl_crew_model.specs.Crews.{IsCrew}
use Rattle.fl_dealing.specs.Dealt.{procs_behind}
use Rattle.fl_dealing.specs.Shown.{reply_of}
use Rattle.fl_dealing.specs.declared.entry.Entry.{Entry}
use Rattle.fl_dealing.specs.declared.entry.Reply.{Reply}
use Rattle.fl_workers.specs.Batches.{IsServed, IsStill, items_for}
use Rattle.fl_workers.specs.Over.{CrewOver, books_of, bench_at}
use Rattle.fl_one_worker_laws.specs.Completing.{AllComplete, OpsComplete}

-- It has one desk, which has seen no more than the list, and one bench. Where desks of a crew have
-- seen all of it, that desk may lag.
pub record IsNodeOf {K : Type 0} (c : CrewOver K) (n : NodeState) : Type 0 where
  pub size : c.size ≡ 1
  pub crew : IsCrew c.node.node.number c.size n (books_of c) (bench_at c.benches)
      (λ w. length c.list)
  pub boot : n.boot ≡ c.node.node.boot
  -- the next process is born on that bench
  pub births : n.procs ≡ 0
  pub births_here : c.procs ≡ 0

-- A batch was served, as a call of a crew says of its entries, and the crew is not stopped. Nothing
-- was due before.
pub record IsDone {K : Type 0} (old new : CrewOver K) (jobs : List Job) (packets : List Packet)
    (es : List Entry) : Type 0 where
  pub idle : old.due ≡ None
  pub runs : new.stopped ≡ false
  pub still : IsStill old new
  pub count : length es ≡ length jobs + length packets
  pub procs : new.procs ≡ procs_behind old.size old.procs (items_for jobs packets)
  pub served : IsServed old new (items_for jobs packets) es

-- ---- what is said of it

-- a message that comes, as a job
abbrev pub arrival_of : Data → Job
arrival_of message = Arrive message

abbrev pub reply_in : Entry → Reply
reply_in e = e.reply

-- who asked for a job is replied what it was told
abbrev pub replied : Told → Reply
replied told = Reply.Told told

-- The jobs are done at the node one after another, and told as the entries say. The node behind
-- them is the crew's then.
pub record DoneInTurn {K : Type 0} (upto : ℕ) (new : CrewOver K) (n : NodeState) (k : Kept)
    (jobs : List Job) (es : List Entry) : Type 0 where
  pub told : List Told
  pub replies : map reply_in es ≡ map replied told
  pub node : NodeState
  pub kept : Kept
  pub complete : AllComplete upto n k jobs told node kept
  -- what is kept goes with what is saved
  pub same : k ≡ kept_of n → kept ≡ kept_of node
  pub is_node : IsNodeOf new node

-- These operations come to the node, and the only entry says how many it took, or why none.
pub record DoneWithOps {K : Type 0} (new : CrewOver K) (n : NodeState) (k : Kept) (ops : List Op)
    (es : List Entry) : Type 0 where
  pub result : Result ℕ Fault
  pub replies : map reply_in es ≡ reply_of result ∷ []
  pub node : NodeState
  pub kept : Kept
  pub complete : OpsComplete n k (set.of_list ops) result node kept
  pub same : k ≡ kept_of n → kept ≡ kept_of node
  pub is_node : IsNodeOf new node
