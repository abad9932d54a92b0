use Rattle.fl_cluster.proofs.Failures.{says_reply}
use Rattle.fl_cluster.proofs.asking.ask_seldom.Goals as goal

pub returns-clause-cause : goal.returns-clause-cause
returns-clause-cause g c says = c.ask.ensures.cause (says_reply _ says)
