-- The statuses of lines: which of them say that the keeper failed.
use Rattle.std.proofs.Common.{◌≡◌, ◌≢◌, ◌∙◌, refl, sym, ap, ℕ, List, [], ◌∷◌, Option, None, Some, arith}
use Rattle.fl_labels.specs.declared.pid.Pid.{Pid}
use Rattle.fl_bench.specs.declared.process.Process.{Process}
use Rattle.fl_system.specs.Processes.{process_of}
use Rattle.fl_machine_turns.specs.Explaining.{told_of}
use Rattle.fl_seal.specs.declared.seal.Key.{Key}
use Rattle.fl_message.specs.declared.message.Data.{Data}
use Rattle.fl_wire.specs.declared.packet.Packet.TheVariants as packets
use Rattle.fl_system.specs.declared.answer.Fault.{Fault}
use Rattle.fl_system.specs.declared.answer.Fault.TheVariants.{KeeperFailed}
use Rattle.fl_system.specs.declared.reply.Reply.{Reply}
use Rattle.fl_system.specs.declared.reply.Reply.TheVariants.{Refused}
use Rattle.fl_system.specs.State.{NodeState}
use Rattle.fl_calls.specs.Answer as says
use Rattle.fl_turns.specs.Answer.{fault_status}
use Rattle.fl_machine_model.specs.Acts.{Saying, Replies, Sends}
use Rattle.fl_machine_turns.specs.Answer.{Answer, answered, answered_of, answered_of_job, status_of}
use Rattle.fl_machine_turns.specs.Answer as answers
use Rattle.fl_machine.specs.Shown.{Shows, status_said}
use Rattle.fl_machine.specs.parts.Responding.{ShowsSaying}
use Rattle.fl_machine.specs.declared.response.Response.{Response}
use Rattle.fl_machine.specs.declared.response.Response.TheVariants as response

pub no_three : ◌≡◌ {A = ℕ} 0 3 → ⊥
no_three e = omega (arith, e)

pub one_is_not_three : ◌≡◌ {A = ℕ} 1 3 → ⊥
one_is_not_three e = omega (arith, e)

pub fault_three : (fault : Fault) → fault_status fault ≡ 3 → fault ≡ KeeperFailed
fault_three KeeperFailed e = refl
fault_three other e = absurd (no_three e)

pub reply_three : (reply : Reply) → status_said (response.Reply reply) ≡ 3
    → reply ≡ Refused KeeperFailed
reply_three (Refused fault) e = ap Refused (fault_three fault e)
reply_three other e = absurd (no_three e)

pub refused_three : (fault : Fault) → fault ≢ KeeperFailed
    → status_said (response.Reply (Refused fault)) ≡ 3 → ⊥
refused_three fault other e = other (fault_three fault e)

-- ---- of a response, and of what it shows

replied_status : (reply : Reply)
    → status_said (response.Reply reply) ≡ status_of (answers.said (says.replied reply))
replied_status (Refused fault) = refl
replied_status other = refl

told_status : (pid : Pid) (found : Option Process) → 0 ≡ status_of (told_of pid found)
told_status pid (Some p) = refl
told_status pid None = refl

-- the status of a response is that of what it shows
pub same_status : {keys : List Key} {n : NodeState} {r : Response} {answer : Answer}
    → Shows keys n r answer → status_said r ≡ status_of answer
same_status Shows.silence = refl
same_status (Shows.replied {reply}) = replied_status reply
same_status Shows.dropped = refl
same_status (Shows.sent e) = refl
same_status (Shows.told e) = refl
same_status (Shows.text running) = refl
same_status Shows.checked = refl
same_status Shows.bad_packet = refl
same_status Shows.admitted = refl
same_status Shows.echoed = refl
same_status Shows.log = refl
same_status Shows.because = refl
same_status Shows.named = refl
same_status Shows.wanting = refl
same_status (Shows.overview are) = refl
same_status {n = n} (Shows.process {pid}) = told_status pid (process_of n pid)
same_status Shows.unknown = refl

-- where a response says that the keeper failed, so does what is said
pub said_three : {keys : List Key} {n : NodeState} {shown : Saying → Answer} {saying : Saying}
    {r : Response} → ShowsSaying keys n shown saying r → status_said r ≡ 3
    → status_of (shown saying) ≡ 3
said_three (ShowsSaying.as_said shows) three = sym (same_status shows) ∙ three
said_three (ShowsSaying.no_room e) three = absurd (no_three three)

answered_reply_three : (reply : Reply) → status_of (answers.said (says.replied reply)) ≡ 3
    → reply ≡ Refused KeeperFailed
answered_reply_three (Refused fault) e = ap Refused (fault_three fault e)
answered_reply_three other e = absurd (no_three e)

pub answered_three : (saying : Saying) → status_of (answered saying) ≡ 3
    → saying ≡ Replies (Refused KeeperFailed)
answered_three (Replies reply) e = ap Replies (answered_reply_three reply e)
answered_three (Sends packets) e = absurd (no_three e)

pub job_three : (saying : Saying) → status_of (answered_of_job saying) ≡ 3
    → saying ≡ Replies (Refused KeeperFailed)
job_three (Replies reply) e = ap Replies (answered_reply_three reply e)
job_three (Sends []) e = absurd (no_three e)
job_three (Sends (packet ∷ [])) e = absurd (no_three e)
job_three (Sends (packet ∷ more ∷ packets)) e = absurd (no_three e)

-- of a message that came
pub arrival_three : (d : Data) (reply : Reply)
    → status_of (answered_of (packets.Data d) (Replies reply)) ≡ 3 → reply ≡ Refused KeeperFailed
arrival_three d (Refused fault) e = ap Refused (fault_three fault e)
arrival_three d other e = absurd (no_three e)
