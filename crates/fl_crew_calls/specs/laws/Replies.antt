-- Each place of a batch has its reply.
use Rattle.std.proofs.Common.{◌≡◌, ◌∙◌, ◌+◌, ◌++◌, ◌∷◌, [], ap, length, refl, suc, ℕ, List, Ok}
use Rattle.fl_dealing.specs.declared.entry.Entry.{Entry}
use Rattle.fl_jobs.specs.declared.job.Job.{Job}
use Rattle.fl_store.specs.Custody.{Custody}
use Rattle.fl_system.specs.declared.reply.Reply.{Reply}
use Rattle.fl_wire.specs.declared.packet.Packet.{Packet}
use Rattle.fl_crew_calls.specs.Batches.{ServesBatch}
use Rattle.fl_crew_calls.specs.Over.{CrewsOver}
use Rattle.fl_crew_calls.specs.Told.{replies_behind, sent_by}

length-replies : (sent : List Packet) (es : List Entry) → length (replies_behind sent es) ≡ length es
length-replies sent [] = refl
length-replies sent (e ∷ es) = ap suc (length-replies (sent ++ sent_by e.reply) es)

pub replied_each : {K M : Type 0} {custody : Custody K} {old : CrewsOver K M} {number : ℕ}
    (jobs : List Job) (packets : List Packet) (replies : List Reply) {new : CrewsOver K M}
    → ServesBatch custody old number jobs packets (Ok replies) new
    → length replies ≡ length jobs + length packets
replied_each {old = old} jobs packets replies (ServesBatch.served {es = es} there served) =
    length-replies old.sent es ∙ served.count
