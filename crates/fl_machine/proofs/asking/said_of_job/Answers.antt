use Rattle.fl_machine.specs.Shown.{Shows}
use Rattle.fl_machine.specs.parts.Responding.{ShowsSaying}
use Rattle.fl_machine.proofs.asking.said_of_job.Goals as goal

pub returns-in-Reply : goal.returns-in-Reply
returns-in-Reply c = λ n. rw c.in-Reply.is (ShowsSaying.as_said Shows.replied)

pub returns-in-Sent : goal.returns-in-Sent
returns-in-Sent c = λ n. rw c.in-Sent.is (c.sent.ensures n)
