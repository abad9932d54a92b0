-- What a batch of a crew does.
use Rattle.std.specs.Prelude.{◌≡◌, ◌≢◌, ◌⊎◌, ℕ, true, false, IsTrue, List, [], ◌∷◌, ◌++◌, map}
use Rattle.std.specs.Prelude.{length, All}
use Rattle.std.specs.List.{slice_get}
use Rattle.std.specs.declared.option.Option.{Option}
use Rattle.std.specs.declared.option.Option.TheVariants.{None, Some}
use Rattle.std.specs.declared.result.Result.TheVariants.{Ok}
use Rattle.fl_bench.specs.Bench.{BenchState}
use Rattle.fl_jobs.specs.declared.job.Job.{Job}
use Rattle.fl_jobs.specs.declared.answer.Refusal.TheVariants.{Memory}
use Rattle.fl_system.specs.declared.answer.Fault.{Fault}
use Rattle.fl_system.specs.declared.answer.Fault.TheVariants.{KeeperFailed, Refused, Stopped}
use Rattle.fl_crew_model.specs.declared.record.Told.{Told}
use Rattle.fl_dealing.specs.declared.entry.Reply.{Reply}
use Rattle.fl_workers.specs.Frugal.{IsFrugal}
use Rattle.fl_wire.specs.declared.packet.Packet.{Packet}
use Rattle.fl_store.specs.Kept.{Kept}
use Rattle.fl_system.specs.declared.state.Batch.{Batch}
use Rattle.fl_system.specs.Publishes.{Publishes}
use Rattle.fl_system.specs.State.{NodeState, kept_of}
use Rattle.fl_crew_model.specs.declared.record.Decision.{Decision}
use Rattle.fl_crew_model.specs.declared.record.Deed.{Deed}
use Rattle.fl_crew_model.specs.declared.record.Deed.TheVariants.{Decided, Delivered}
use Rattle.fl_crew_model.specs.declared.record.Entry as told_entry
use Rattle.fl_crew_model.specs.declared.record.FailedOrder.{FailedOrder}
use Rattle.fl_crew_model.specs.Answered.{AreTold, AreOwn, IsAmong}
use Rattle.fl_crew_model.specs.Books.{Books}
use Rattle.fl_crew_model.specs.Crews.{Breaks, IsWorker, IsFront, IsCrew, IsWeave}
use Rattle.fl_settling.specs.Batches.{IsStopFirst}
use Rattle.fl_settling.specs.Cut.{AreGivenUp}
use Rattle.fl_store.specs.Custody.{Custody}
use Rattle.fl_worker.specs.Seen.{Rises}
use Rattle.fl_worker.specs.Tasks.{AreOf}
use Rattle.fl_crew_threads.specs.Receiving.{place_at, AreReceived, AreDecisions}
use Rattle.fl_crew_threads.specs.declared.ruling.Placed.{Placed}
use Rattle.fl_dealing.specs.declared.entry.Entry.{Entry}
use Rattle.fl_dealing.specs.declared.entry.Taken.{Taken}
use Rattle.fl_dealing.specs.declared.item.Item.{Item}
use Rattle.fl_dealing.specs.Dealt.{owners_of, parcels_of, tasks_of}
use Rattle.fl_dealing.specs.Gathered.{select}
use Rattle.fl_dealing.specs.Items.{job_item, item_of}
use Rattle.fl_dealing.specs.Shown.{shown, shown_taken}
use Rattle.fl_manning.specs.Orders.{job_for}
use Rattle.fl_registrar.specs.Apart.{IsFree}
use Rattle.fl_registrar.specs.Publishing.{IsSameButList}
use Rattle.fl_workers.specs.Plans.{place_in, packet_in, packet_at}
use Rattle.fl_workers.specs.Over.{CrewOver, books_of, bench_at, begun_books, begun_benches}

-- what stands at the places of a batch: its jobs, and then its packets
abbrev pub items_for : List Job → List Packet → List Item
items_for jobs packets = map job_item jobs ++ map item_of packets

-- whose item stands at each of them
abbrev pub owners_at : {K : Type 0} → CrewOver K → List Item → List ℕ
owners_at c is = owners_of c.size c.procs is

-- who asked is told neither that the keeper broke nor that the crew is stopped
pub record IsAnswered (e : Entry) : Type 0 where
  pub broken : e.reply ≢ Reply.Told (Told.Refused KeeperFailed)
  pub stopped : e.reply ≢ Reply.Told (Told.Refused Stopped)

-- what was due is published
abbrev pub Clears : NodeState → Option Batch → NodeState → Type 0
Clears n None n' = n' ≡ n
Clears n (Some batch) n' = Publishes n (Ok (length n'.published)) n'

-- The entries, and what the list gained, are one run of the node, with these benches behind it:
-- what was due is published first, each worker's entries stand in its order, and each order where it
-- was decided; what is admitted, but arrivals, is safe under the list behind it.
pub record IsOneRun {K : Type 0} (old new : CrewOver K) (n : NodeState) (deeds : List Deed)
    (good : ℕ → List told_entry.Entry) (benches : ℕ → BenchState) (last : ℕ → ℕ) : Type 0 where
  pub begun : NodeState
  pub clears : Clears n old.due begun
  pub weave : IsWeave old.node.node.number old.size begun deeds good (books_of new) benches last

-- What came of the packets, at the places of the registrar: of each that it ruled on, what the record
-- says. It took them before it ruled on an order.
pub record IsTakenAll (is : List Item) (owners : List ℕ) (es : List Entry) (deeds : List Deed)
    : Type 0 where
  pub placed : List Placed
  pub places : map place_at placed ≡ map place_in (parcels_of 0 is)
  pub packets : map packet_at placed ≡ map packet_in (parcels_of 0 is)
  pub told : List Taken
  pub rows : List Deed
  pub later : List Deed
  pub deeds_are : deeds ≡ rows ++ later
  pub received : AreReceived placed told rows
  pub decisions : AreDecisions later
  pub are_shown : select 0 owners es ≡ map shown_taken told

-- no two decisions are on one place
abbrev pub AreOnce : List Deed → Type 0
AreOnce [] = Unit {0}
AreOnce (Decided d ∷ deeds) = IsFree d.place deeds × AreOnce deeds
AreOnce (Delivered p ∷ deeds) = AreOnce deeds

-- the job at this place was not done, and who asked is told why
pub record IsLostAt (lost : List told_entry.Entry) (place : ℕ) (fault : Fault) : Type 0 where
  pub index : ℕ
  pub entry : told_entry.Entry
  pub there : slice_get lost index ≡ Some entry
  pub at : entry.place ≡ place
  pub is_told : entry.told ≡ Told.Refused fault

-- the first job that was not done is the order at this place, at which the keeper broke: it can
-- stand behind a run of what was done
pub record BreaksFirst (number : ℕ) (b : Books) (workers w : ℕ) (bench : BenchState) (last : ℕ)
    (place : ℕ) (lost : List told_entry.Entry) : Type 0 where
  pub entry : told_entry.Entry
  pub rest : List told_entry.Entry
  pub first : lost ≡ entry ∷ rest
  pub at : entry.place ≡ place
  pub breaks : Breaks number b workers w bench last entry

-- The keeper broke at this order of a worker: who gave it is told so, and it is the first that was
-- not done, if anything stands that the worker did.
pub record HasMet (number : ℕ) (b : Books) (workers : ℕ) (good lost : ℕ → List told_entry.Entry)
    (benches : ℕ → BenchState) (last : ℕ → ℕ) (order : FailedOrder) : Type 0 where
  pub worker : IsWorker workers order.worker
  pub told : IsLostAt (lost order.worker) order.place KeeperFailed
  pub first : BreaksFirst number b workers order.worker (benches order.worker) (last order.worker)
      order.place (lost order.worker) ⊎ (good order.worker ≡ [])

-- The entries of each worker, of the jobs that were done and of the others, beside the record of the
-- registrar.
pub record IsServed {K : Type 0} (old new : CrewOver K) (is : List Item) (es : List Entry)
    : Type 0 where
  pub deeds : List Deed
  pub good : ℕ → List told_entry.Entry
  pub lost : ℕ → List told_entry.Entry
  -- the bench of each worker behind the jobs that were done
  pub benches : ℕ → BenchState
  pub last : ℕ → ℕ
  pub left : ℕ → List Decision
  pub front : IsFront old.node.node.number old.size (begun_books old) (books_of new) deeds
      (begun_benches old) benches good last left
  pub told : AreTold old.size (begun_books old) (books_of new) deeds good left
  -- each operation of the record is of the order at its place
  pub own : AreOwn (job_for (owners_at old is) is) deeds
  -- and each order is ruled on once at most
  pub once : AreOnce deeds
  pub taken : IsTakenAll is (owners_at old is) es deeds
  -- each worker has answered its tasks, in the order of the places, and is shown so
  pub tasks : (w : ℕ) → IsWorker old.size w
      → AreOf (tasks_of w 0 (owners_at old is) is) (good w ++ lost w)
  pub are_shown : (w : ℕ) → IsWorker old.size w
      → select w (owners_at old is) es ≡ map shown (good w ++ lost w)
  -- none saw less of the list than an earlier one of its worker
  pub rises : (w : ℕ) → IsWorker old.size w → Rises 0 (good w ++ lost w)
  -- who asked for a job that was not done is told that the keeper broke, where it did at this
  -- order, and else that the crew is stopped
  pub given_up : (w : ℕ) → IsWorker old.size w → AreGivenUp new.failed w (lost w)
  -- each worker stopped at the first of these, or nothing stands that it did
  pub undone : (w : ℕ) → IsWorker old.size w
      → IsStopFirst new.list (benches w) (lost w) ⊎ (good w ≡ [])
  -- the order at which the keeper broke is among them
  pub met : (order : FailedOrder) → new.failed ≡ Some order
      → HasMet old.node.node.number (books_of new) old.size good lost benches last order
  -- and so is each order that was decided, and whose worker stopped before it was told so
  pub left_over : (w : ℕ) (d : Decision) → IsWorker old.size w → IsAmong (left w) d
      → IsLostAt (lost w) d.place Stopped
  -- a job that takes no memory was not refused for want of it
  pub frugal : (w i : ℕ) (e : told_entry.Entry) → IsWorker old.size w
      → slice_get (good w) i ≡ Some e → IsFrugal e.job.value
      → e.told ≢ Told.Refused (Refused Memory)
  -- jobs that were not done there are only where the crew is stopped
  pub whole : new.stopped ≡ false → (w : ℕ) → IsWorker old.size w
      → (lost w ≡ []) × (left w ≡ []) × (benches w ≡ bench_at new.benches w)
  pub answered : new.stopped ≡ false → All IsAnswered es
  -- and then they are one run of a node that the crew stands for
  pub woven : new.stopped ≡ false → (n : NodeState) (first : ℕ → ℕ)
      → IsCrew old.node.node.number old.size n (books_of old) (bench_at old.benches) first
      → IsOneRun old new n deeds good (bench_at new.benches) last
  -- also of a crew that stopped, as far as its workers came, where no decision is left over
  pub woven_so_far : ((w : ℕ) → IsWorker old.size w → left w ≡ []) → (n : NodeState)
      (first : ℕ → ℕ)
      → IsCrew old.node.node.number old.size n (books_of old) (bench_at old.benches) first
      → IsOneRun old new n deeds good benches last

-- the same, beside what is kept: all that is saved, unless the keeper broke
pub record Serves {K : Type 0} (custody : Custody K) (old new : CrewOver K) (is : List Item)
    (es : List Entry) (k k' : Kept) : Type 0 where
  pub served : IsServed old new is es
  pub kept : custody.is_broken new.node.keeper ≡ false → k ≡ kept_of old.node.node
      → k' ≡ kept_of new.node.node

-- where its keeper broke at an order it is broken, and the crew is stopped
pub record IsBrokenAt {K : Type 0} (custody : Custody K) (c : CrewOver K) : Type 0 where
  pub broken : IsTrue (custody.is_broken c.node.keeper)
  pub stopped : c.stopped ≡ true

abbrev pub IsBrokenThere : {K : Type 0} → Custody K → CrewOver K → Type 0
IsBrokenThere custody c =
    (order : FailedOrder) → c.failed ≡ Some order → IsBrokenAt custody c

-- a batch that was not begun: all is as it was, but that the registrar may have published what is
-- due in its node
pub record IsUnbegun {K : Type 0} (old new : CrewOver K) : Type 0 where
  pub node : IsSameButList old.node new.node
  pub list : new.list ≡ old.list
  pub due : new.due ≡ old.due
  pub benches : new.benches ≡ old.benches
  pub procs : new.procs ≡ old.procs
  pub size : new.size ≡ old.size
  pub stopped : new.stopped ≡ old.stopped

-- what a batch leaves as it was, whatever its keeper does
pub record IsStill {K : Type 0} (old new : CrewOver K) : Type 0 where
  pub number : new.node.node.number ≡ old.node.node.number
  pub boot : new.node.node.boot ≡ old.node.node.boot
  pub size : new.size ≡ old.size
  pub runs : new.stopped ≡ false → old.stopped ≡ false
