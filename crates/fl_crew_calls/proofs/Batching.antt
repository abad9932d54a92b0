-- What a crew did with a batch.
use Rattle.std.proofs.Common.{◌≡◌, ◌+◌, List, length, Result, Ok, Err}
use Rattle.std.specs.Prelude.{IfOk, OnOk}
use Rattle.fl_dealing.specs.Dealt.{procs_behind}
use Rattle.fl_dealing.specs.declared.entry.Entry.{Entry}
use Rattle.fl_jobs.specs.declared.job.Job.{Job}
use Rattle.fl_registrar.specs.Passing.{Passes}
use Rattle.fl_store.specs.Custody.{Custody}
use Rattle.fl_wire.specs.declared.packet.Packet.{Packet}
use Rattle.fl_workers.specs.Batches.{IsBrokenThere, IsStill, Serves, items_for}
use Rattle.fl_workers.specs.Over.{CrewOver}
use Rattle.fl_crew_calls.specs.Batches.{IsServedBy}

pub if_served : {K V E : Type 0} (custody : Custody K) (old new : CrewOver K) (jobs : List Job)
    (packets : List Packet) (items : V → List Entry) (r : Result V E) → IsStill old new
    → IfOk r (λ es. length (items es) ≡ length jobs + length packets)
    → IfOk r (λ es. new.procs ≡ procs_behind old.size old.procs (items_for jobs packets))
    → IfOk r (λ es. Passes custody (Serves custody old new (items_for jobs packets) (items es))
    old.node.keeper new.node.keeper)
    → OnOk r (IsBrokenThere custody new)
    → IfOk r (λ es. IsServedBy custody old new jobs packets (items es))
if_served custody old new jobs packets items (Ok es) still count procs serves broken =
    record { still = still; count = count; procs = procs; serves = serves; broken = broken }
if_served custody old new jobs packets items (Err e) still count procs serves broken = tt
