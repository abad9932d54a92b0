-- What is responded to jobs.
use Rattle.std.proofs.Common.{◌≡◌, ap, ℕ, List, IsTrue}
use Rattle.fl_seal.specs.declared.seal.Key.{Key}
use Rattle.fl_store.specs.Custody.{Custody}
use Rattle.fl_node.specs.Over.{NodeOver}
use Rattle.fl_system.specs.declared.answer.Fault.TheVariants.{KeeperFailed}
use Rattle.fl_system.specs.declared.reply.Reply.TheVariants.{Refused}
use Rattle.fl_machine_model.specs.Acts.{Replies, Saying}
use Rattle.fl_machine_turns.specs.Answer.{answered_of_job}
use Rattle.fl_machine_turns.specs.Saying.{Says}
use Rattle.fl_machine_calls.specs.Going.{DoesAlone, Doings, IsSameNode}
use Rattle.fl_machine_calls.specs.Saying.{saying_of}
use Rattle.fl_machine_calls.specs.declared.said.Said.{Said}
use Rattle.fl_machine_calls.specs.declared.said.Said.TheVariants.{Reply, Sent}
use Rattle.fl_machine.specs.parts.Responding.{Responds, ShowsSaying}
use Rattle.fl_machine.specs.declared.response.Response.{Response}
use Rattle.fl_machine.proofs.Responses.{says_so}
use Rattle.fl_machine.proofs.Statuses.{job_three, said_three}

pub said_failed : (said : Said) → saying_of said ≡ Replies (Refused KeeperFailed)
    → said ≡ Reply (Refused KeeperFailed)
said_failed (Reply given) e = let same : given ≡ Refused KeeperFailed = cc in ap Reply same
said_failed (Sent message) e = absurd (cc)

-- what a job says is responded
pub job_responds : {K : Type 0} (custody : Custody K) (x y : NodeOver K) (keys : List Key)
    (r : Response) (count : ℕ) (does : Doings Saying) (said : Said)
    → ShowsSaying keys y.node answered_of_job (saying_of said) r
    → DoesAlone custody x does count (saying_of said) y → IsSameNode x.node y.node
    → (said ≡ Reply (Refused KeeperFailed) → IsTrue (custody.is_broken y.keeper))
    → Responds custody keys x (λ s. Says answered_of_job (does s)) r count y
job_responds custody x y keys r count does said shows done same cause =
    says_so custody x y keys r count answered_of_job does (saying_of said) shows done same
    (λ three. cause (said_failed said (job_three (saying_of said) (said_three shows three))))
