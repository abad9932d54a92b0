-- What a batch of the crew of a node does.
use Rattle.std.specs.Prelude.{◌≡◌, ◌⊎◌, ◌+◌, ◌∷◌, [], ℕ, List, length, true}
use Rattle.std.specs.declared.result.Result.{Result}
use Rattle.std.specs.declared.result.Result.TheVariants.{Ok, Err}
use Rattle.fl_jobs.specs.declared.job.Job.{Job}
use Rattle.fl_dealing.specs.Dealt.{procs_behind}
use Rattle.fl_dealing.specs.declared.entry.Entry.{Entry}
use Rattle.fl_registrar.specs.Passing.{Passes}
use Rattle.fl_store.specs.Custody.{Custody}
use Rattle.fl_system.specs.declared.answer.Fault.{Fault}
use Rattle.fl_system.specs.declared.answer.Fault.TheVariants.{Refused, Stopped}
use Rattle.fl_jobs.specs.declared.answer.Refusal.TheVariants.{Memory}
use Rattle.fl_system.specs.declared.reply.Reply.{Reply}
use Rattle.fl_wire.specs.declared.packet.Packet.{Packet}
use Rattle.fl_workers.specs.Batches.{IsBrokenThere, IsStill, IsUnbegun, Serves, items_for}
use Rattle.fl_workers.specs.Over.{CrewOver}
use Rattle.fl_crew_calls.specs.Over.{CrewsOver, IsCrewAt, IsUnopened, with_crew, with_sent}
use Rattle.fl_crew_calls.specs.Told.{all_sent, replies_behind}

-- the crew served them, and gave these entries
pub record IsServedBy {K : Type 0} (custody : Custody K) (old new : CrewOver K) (jobs : List Job)
    (packets : List Packet) (es : List Entry) : Type 0 where
  pub still : IsStill old new
  pub count : length es ≡ length jobs + length packets
  -- who makes the next process
  pub procs : new.procs ≡ procs_behind old.size old.procs (items_for jobs packets)
  pub serves : Passes custody (Serves custody old new (items_for jobs packets) es)
      old.node.keeper new.node.keeper
  pub broken : IsBrokenThere custody new

-- none was begun: the crew was stopped before, or there was not enough memory
abbrev pub IsUnbegunFor : {K : Type 0} → CrewOver K → Fault → Type 0
IsUnbegunFor crew fault = ((fault ≡ Stopped) × (crew.stopped ≡ true)) ⊎ (fault ≡ Refused Memory)

-- The crew of the node serves these jobs and packets as one batch: each is replied by its entry, in
-- their order, and a message that one sends is the next packet; or none is begun.
pub data ServesBatch {K M : Type 0} (custody : Custody K) (old : CrewsOver K M) (number : ℕ)
    (jobs : List Job) (packets : List Packet) : Result (List Reply) Fault → CrewsOver K M
    → Type 0 where
  served : {crew crew' : CrewOver K} {es : List Entry} → IsCrewAt old number crew
      → IsServedBy custody crew crew' jobs packets es
      → ServesBatch custody old number jobs packets (Ok (replies_behind old.sent es))
      (with_sent (with_crew old number crew') (all_sent es))
  unbegun : {crew crew' : CrewOver K} {fault : Fault} → IsCrewAt old number crew
      → IsUnbegunFor crew fault → IsUnbegun crew crew' → IsStill crew crew'
      → ServesBatch custody old number jobs packets (Err fault) (with_crew old number crew')
  no_room : ServesBatch custody old number jobs packets (Err (Refused Memory)) old
  no_crew : IsUnopened old number → ServesBatch custody old number jobs packets (Err Stopped) old
