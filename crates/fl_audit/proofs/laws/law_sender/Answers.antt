use Rattle.fl_audit.specs.laws.Senders.{sender_known}
use Rattle.fl_audit.proofs.laws.law_sender.Goals as goal

pub returns : goal.returns
returns c = λ n after desk upto job d h. sender_known n desk upto job d h
