-- What a batch of a crew promises of each worker and of its record, and that its entries are one
-- run of its node.
use Rattle.std.specs.Prelude.{◌≡◌, ◌==◌, ℕ, ◌+◌, ◌≤◌, cond, List, [], ◌∷◌, ◌++◌, length}
use Rattle.std.specs.List.{Contains}
use Rattle.std.specs.declared.option.Option.{Option}
use Rattle.std.specs.declared.option.Option.TheVariants.{None, Some}
use Rattle.std.specs.declared.result.Result.TheVariants.{Ok, Err}
use Rattle.fl_labels.specs.declared.pid.Pid.{Pid}
use Rattle.fl_ops.specs.Registry.{Listed}
use Rattle.fl_ops.specs.declared.op.Op.{Op}
use Rattle.fl_jobs.specs.declared.job.Job.{Job}
use Rattle.fl_jobs.specs.declared.job.Job.TheVariants.{Proc, By, Member, Arrive}
use Rattle.fl_jobs.specs.declared.answer.Outcome.{Outcome}
use Rattle.fl_bench.specs.Bench.{BenchState}
use Rattle.fl_bench.specs.Gifts.{finished}
use Rattle.fl_bench.specs.Jobs.{Does}
use Rattle.fl_store.specs.Kept.{Kept, with_batch}
use Rattle.fl_system.specs.declared.admission.Admission.{Admission}
use Rattle.fl_system.specs.declared.answer.Answer.TheVariants as answers
use Rattle.fl_system.specs.declared.answer.Fault.TheVariants.{KeeperFailed}
use Rattle.fl_system.specs.declared.state.Batch.{Batch}
use Rattle.fl_system.specs.declared.state.Batch.TheVariants.{Ordered, Received}
use Rattle.fl_system.specs.Numbered.{item_at}
use Rattle.fl_system.specs.State.{NodeState, first_ops, ops_of}
use Rattle.fl_system.specs.Naming.{IsNextAfter}
use Rattle.fl_system.specs.Jobs.{Jobs, bench_of}
use Rattle.fl_system.specs.Saves.{Saves, halted}
use Rattle.fl_system.specs.Publishes.{Publishes}
use Rattle.fl_system.specs.Audit.{SafeUnder, entries}
use Rattle.fl_crew_model.specs.declared.record.Told.{Told}
use Rattle.fl_crew_model.specs.declared.record.Entry.{Entry}
use Rattle.fl_crew_model.specs.declared.record.Decision.{Decision}
use Rattle.fl_crew_model.specs.declared.record.Deed.{Deed}
use Rattle.fl_crew_model.specs.declared.record.Deed.TheVariants.{Decided, Delivered}
use Rattle.fl_crew_model.specs.Served.{Served}
use Rattle.fl_crew_model.specs.Compared.{AgreesUpTo, decisions_of}
use Rattle.fl_crew_model.specs.Books.{Books, Recorded, Holds}
use Rattle.fl_crew_model.specs.Woven.{placed, Turn, Woven, entries_of}

-- workers have the numbers from 1 on
pub record IsWorker (workers w : ℕ) : Type 0 where
  pub low : 1 ≤ w
  pub high : w ≤ workers

-- Where a job is done: a process's on the bench of its serial, a question about groups at the first
-- worker, a birth anywhere.
abbrev pub home_of : ℕ → ℕ → Job → ℕ
home_of workers w Proc = w
home_of workers w (Member root c) = 1
home_of workers w (By pid act) = bench_of workers pid.serial
home_of workers w (Arrive d) = bench_of workers d.receiver.serial

-- the jobs are those of this worker
abbrev pub AllHome : ℕ → ℕ → List Entry → Type 0
AllHome workers w [] = Unit {0}
AllHome workers w (e ∷ es) = (home_of workers w e.job.value ≡ w) × AllHome workers w es

-- each decision is on an order of a worker
abbrev pub AllOfWorkers : ℕ → List Deed → Type 0
AllOfWorkers workers [] = Unit {0}
AllOfWorkers workers (Decided d ∷ rs) = IsWorker workers d.worker × AllOfWorkers workers rs
AllOfWorkers workers (Delivered p ∷ rs) = AllOfWorkers workers rs

-- What is promised of one worker: its entries are steps of its bench, they are those on the first
-- decisions on its orders, and the jobs are its own.
pub record Promises (workers first : ℕ) (list : List Op) (rs : List Deed) (w : ℕ)
    (old new : BenchState) (es : List Entry) (last : ℕ) (left : List Decision) : Type 0 where
  pub served : Served list old es new
  pub agrees : AgreesUpTo first (decisions_of w rs) es last left
  pub homes : AllHome workers w es

-- What is promised of a batch in which a worker may have stopped: of the entries of each worker up
-- to there. The desk of worker w has to have seen `last w` then, and the decisions `left w` on its
-- orders are on none of them.
pub record IsFront (number workers : ℕ) (b b' : Books) (rs : List Deed) (old new : ℕ → BenchState)
    (es : ℕ → List Entry) (last : ℕ → ℕ) (left : ℕ → List Decision) : Type 0 where
  pub recorded : Recorded number b rs b'
  pub of_workers : AllOfWorkers workers rs
  pub promises : (w : ℕ) → IsWorker workers w
      → Promises workers (length b.list) b'.list rs w (old w) (new w) (es w) (last w) (left w)

-- what is promised of a batch in which no worker stopped: no decision is left
abbrev pub IsBatch : ℕ → ℕ → Books → Books → List Deed → (ℕ → BenchState) → (ℕ → BenchState)
    → (ℕ → List Entry) → (ℕ → ℕ) → Type 0
IsBatch number workers b b' rs old new es last =
    IsFront number workers b b' rs old new es last (λ w. [])

-- what is due was made by a process of that worker's bench
pub record IsMaker (workers : ℕ) (pid : Pid) (desk : ℕ) : Type 0 where
  pub worker : IsWorker workers desk
  pub home : bench_of workers pid.serial ≡ desk

-- what is due has a maker and a desk, or neither, and the maker is of that desk's bench
abbrev pub IsDueHome : ℕ → Option Batch → Type 0
IsDueHome workers None = Unit {0}
IsDueHome workers (Some (Ordered op None None)) = Unit {0}
IsDueHome workers (Some (Ordered op (Some pid) (Some desk))) = IsMaker workers pid desk
IsDueHome workers (Some (Ordered op (Some pid) None)) = ⊥
IsDueHome workers (Some (Ordered op None (Some desk))) = ⊥
IsDueHome workers (Some (Received ops)) = Unit {0}

-- the node of a crew, between batches: no desk has seen more than the list, nor than it has to
pub record IsCrew (number workers : ℕ) (n : NodeState) (b : Books) (benches : ℕ → BenchState)
    (last : ℕ → ℕ) : Type 0 where
  pub numbered : n.number ≡ number
  pub desks : length n.views ≡ workers
  pub places : length n.benches ≡ workers
  pub holds : Holds n b
  pub due : IsDueHome workers b.due
  pub seen : (w : ℕ) → IsWorker workers w
      → (v : ℕ) × (item_at n.views w ≡ Some v) × (v ≤ length b.list) × (v ≤ last w)
  pub stands : (w : ℕ) → IsWorker workers w → item_at n.benches w ≡ Some (benches w)

-- One run of the node, in which each worker's entries stand in its order, and each decision where
-- it was made.
pub record IsWeave (number workers : ℕ) (n : NodeState) (rs : List Deed) (es : ℕ → List Entry)
    (b' : Books) (new : ℕ → BenchState) (last : ℕ → ℕ) : Type 0 where
  pub turns : List Turn
  pub end : NodeState
  pub run : Woven n rs turns end
  pub owns : (w : ℕ) → IsWorker workers w → entries_of w turns ≡ es w
  pub crew : IsCrew number workers end b' new last

-- ---- between batches: what an earlier batch left due

-- with what was due
abbrev pub cleared : Books → Batch → Books
cleared b batch = record { saved = b.saved; list = b.list ++ ops_of batch; due = None }

-- the maker has what the operation gives
abbrev pub benches_with : (ℕ → BenchState) → Batch → ℕ → BenchState
benches_with old (Ordered op (Some pid) (Some desk)) w =
    cond (desk == w) (finished (old desk) pid op) (old w)
benches_with old (Ordered op (Some pid) None) w = old w
benches_with old (Ordered op None desk) w = old w
benches_with old (Received ops) w = old w

-- it is published, and the node is a crew's again
pub record IsCleared (number workers : ℕ) (n : NodeState) (b : Books) (old : ℕ → BenchState)
    (batch : Batch) : Type 0 where
  pub node : NodeState
  pub publishes : Publishes n (Ok (length node.published)) node
  pub crew : IsCrew number workers node (cleared b batch) (benches_with old batch)
      (λ w. length b.list + length (ops_of batch))

-- ---- the keeper breaks at the last order of a batch

-- worker w gave an order, and the keeper broke when its operation was to be saved
pub record Breaks (number : ℕ) (b : Books) (workers w : ℕ) (bench : BenchState) (last : ℕ)
    (e : Entry) : Type 0 where
  pub op : Op
  pub pid : Pid
  pub left : BenchState
  pub idle : b.due ≡ None
  pub named : IsNextAfter b.saved number op.name
  pub later : last ≤ e.seen
  pub enough : e.seen ≤ length b.list
  pub home : home_of workers w e.job.value ≡ w
  pub does : Does (first_ops e.seen b.list) bench e.job.value (Ok (Outcome.Order op.body pid)) left
  pub is_told : e.told ≡ Told.Refused KeeperFailed

-- stopped, with the operation of this maker at worker w in doubt
abbrev pub broken : NodeState → Op → Pid → ℕ → NodeState
broken n op maker w = halted n (Some (Ordered op (Some maker) (Some w)))

-- Its entry is the last of the run: the job, and the saving that fails, whatever is kept then: what
-- was, or that with the operation.
pub record IsBroken (n : NodeState) (w : ℕ) (e : Entry) (op : Op) (maker : Pid) : Type 0 where
  pub begun : NodeState
  pub job : Jobs (placed n w) w e.seen e.job.value (Ok (answers.Begun op.name)) begun
  pub lost : (k : Kept) → Saves begun k (Err KeeperFailed) (broken begun op maker w) k
  pub saved : (k : Kept)
      → Saves begun k (Err KeeperFailed) (broken begun op maker w) (with_batch k (op ∷ []))
  pub safe : (a : Admission) → Contains (entries (placed n w) e.job.value (answers.Begun op.name)) a
      → SafeUnder (Listed n.published) a
