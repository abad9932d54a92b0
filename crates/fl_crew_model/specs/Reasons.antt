-- What who gave an order is told where it has no operation.
use Rattle.fl_jobs.specs.declared.answer.Refusal.{Refusal}
use Rattle.fl_jobs.specs.declared.answer.Refusal.TheVariants as refusals
use Rattle.fl_crew_model.specs.declared.record.Reason.{Reason}
use Rattle.fl_crew_model.specs.declared.record.Reason.TheVariants.{Busy, NamesSpent, Memory}

abbrev pub refusal_of : Reason → Refusal
refusal_of Busy = refusals.Busy
refusal_of NamesSpent = refusals.NamesSpent
refusal_of Memory = refusals.Memory
