-- What is shown of an entry of a worker, and of what the registrar says of a packet.
use Rattle.std.specs.Prelude.{ℕ}
use Rattle.std.specs.declared.result.Result.{Result}
use Rattle.std.specs.declared.result.Result.TheVariants.{Ok, Err}
use Rattle.fl_system.specs.declared.answer.Fault.{Fault}
use Rattle.fl_crew_model.specs.declared.record.Told.{Told}
use Rattle.fl_crew_model.specs.declared.record.Entry as told_entry
use Rattle.fl_dealing.specs.declared.entry.Entry.{Entry}
use Rattle.fl_dealing.specs.declared.entry.Reply.{Reply}
use Rattle.fl_dealing.specs.declared.entry.Taken.{Taken}

-- what was told, without the job
abbrev pub shown : told_entry.Entry → Entry
shown e = record { job = e.place; reply = Reply.Told e.told; seen = e.seen }

-- the number of operations that were taken, or the refusal
abbrev pub reply_of : Result ℕ Fault → Reply
reply_of (Ok count) = Reply.Took count
reply_of (Err fault) = Reply.Told (Told.Refused fault)

abbrev pub shown_taken : Taken → Entry
shown_taken taken = record { job = taken.place; reply = reply_of taken.answer; seen = taken.seen }
