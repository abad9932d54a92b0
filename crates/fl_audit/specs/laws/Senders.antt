-- Who sends a message by a job is known before the job is done.
use Rattle.std.proofs.Common.{◌≡◌, ℕ, ap, Ok}
use Rattle.fl_message.specs.declared.message.Data.{Data}
use Rattle.fl_jobs.specs.declared.job.Job.{Job}
use Rattle.fl_bench.specs.laws.Orders.{sending_at}
use Rattle.fl_system.specs.Jobs.{Jobs}
use Rattle.fl_system.specs.Processes.{process_of}
use Rattle.fl_system.specs.State.{NodeState}
use Rattle.fl_system.specs.WorldJobs.{party_at}
use Rattle.fl_system.specs.declared.answer.Answer.TheVariants as answers
use Rattle.fl_audit.specs.Drafts.{asker_of}
use Rattle.fl_audit.specs.Senders.{sender_of}

-- the process that asks for the job is the sender of the packet that it sends
pub sender_known : (n : NodeState) (desk upto : ℕ) (job : Job) (d : Data) {n' : NodeState}
    → Jobs n desk upto job (Ok (answers.Out d)) n'
    → sender_of (asker_of n job) job ≡ party_at d.sender (process_of n d.sender)
sender_known n desk upto job d (Jobs.sent {v} look did) =
    ap (λ j. sender_of (asker_of n j) j) (sending_at did.does).asked
