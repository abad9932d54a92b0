use Rattle.fl_rules.specs.laws.Messages.{message_safe}
use Rattle.fl_rules.proofs.laws.law_message.Goals as goal

pub returns : goal.returns
returns g c = λ one more_g other more_h p q e f from_g from_h. message_safe from_g from_h
