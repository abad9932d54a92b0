-- What a job, a publication and a cancellation leave saved.
use Rattle.std.proofs.Common.{◌≡◌, refl, Result, ℕ, List, Option}
use Rattle.fl_labels.specs.declared.name.Name.{Name}
use Rattle.fl_labels.specs.declared.pid.Pid.{Pid}
use Rattle.fl_ops.specs.declared.op.Body.{Body}
use Rattle.fl_jobs.specs.declared.job.Job.{Job}
use Rattle.fl_system.specs.declared.admission.Admission.{Admission}
use Rattle.fl_system.specs.declared.answer.Answer.{Answer}
use Rattle.fl_system.specs.declared.answer.Fault.{Fault}
use Rattle.fl_system.specs.declared.reply.Reply.{Reply}
use Rattle.fl_system.specs.declared.sent.Sent.{Sent}
use Rattle.fl_system.specs.Begins.{Begins}
use Rattle.fl_system.specs.Jobs.{Jobs}
use Rattle.fl_system.specs.Publishes.{Cancels, Publishes}
use Rattle.fl_system.specs.State.{NodeState}
use Rattle.fl_machine_model.specs.Alone.{JobAlone}
use Rattle.fl_notes.specs.Working.{Worked}

begins_saved : (n n' : NodeState) (body : Body) (maker : Option Pid) (desk : Option ℕ) (result : Result Name Fault)
    → Begins n body maker desk result n' → n'.saved ≡ n.saved
begins_saved n n' body maker desk result (Begins.begins idle next) = refl
begins_saved n n' body maker desk result (Begins.taken h) = refl
begins_saved n n' body maker desk result (Begins.spent idle last) = refl

jobs_saved : (n n' : NodeState) (desk upto : ℕ) (job : Job) (result : Result Answer Fault)
    → Jobs n desk upto job result n' → n'.saved ≡ n.saved
jobs_saved n n' desk upto job result (Jobs.stopped h) = refl
jobs_saved n n' desk upto job result (Jobs.no_room look more seen) = refl
jobs_saved n n' desk upto job result (Jobs.refused look decides) = refl
jobs_saved n n' desk upto job result (Jobs.replied look decides) = refl
jobs_saved n n' desk upto job result (Jobs.sent look decides) = refl
jobs_saved n n' desk upto job result (Jobs.begun look decides on) = begins_saved _ n' _ _ _ _ on
jobs_saved n n' desk upto job result (Jobs.not_begun look decides on) = refl

works_saved : (number : ℕ) (n n' : NodeState) (desk upto : ℕ) (job : Job) (count : ℕ) (result : Reply) (sent : List Sent) (admitted : List Admission)
    → JobAlone number n desk upto job count result n' sent admitted → n'.saved ≡ n.saved
works_saved number n n' desk upto job count result sent admitted (JobAlone.refused h) = jobs_saved n n' desk upto job _ h
works_saved number n n' desk upto job count result sent admitted (JobAlone.replied h) = jobs_saved n n' desk upto job _ h
works_saved number n n' desk upto job count result sent admitted (JobAlone.begun h) = jobs_saved n n' desk upto job _ h
works_saved number n n' desk upto job count result sent admitted (JobAlone.sends h) = jobs_saved n n' desk upto job _ h
works_saved number n n' desk upto job count result sent admitted (JobAlone.no_room look seen noted) = refl

pub worked_saved : (number : ℕ) (n n' : NodeState) (desk upto : ℕ) (job : Job) (result : Reply)
    (packets packets_after : List Sent) (audit audit_after : List Admission)
    → Worked number n desk upto job result n' packets packets_after audit audit_after → n'.saved ≡ n.saved
worked_saved number n n' desk upto job result packets packets_after audit audit_after worked =
    works_saved number n n' desk upto job _ result worked.sent worked.admitted worked.works

pub cancels_saved : (n n' : NodeState) (result : Result Unit Fault) → Cancels n result n' → n'.saved ≡ n.saved
cancels_saved n n' result (Cancels.given_up h) = refl
cancels_saved n n' result (Cancels.none h) = refl

pub publishes_saved : (n n' : NodeState) (result : Result ℕ Fault) → Publishes n result n' → n'.saved ≡ n.saved
publishes_saved n n' result (Publishes.published h) = refl
publishes_saved n n' result (Publishes.no_room h) = refl
publishes_saved n n' result (Publishes.none h) = refl
