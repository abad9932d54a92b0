use Rattle.std.proofs.Common.{subst, sym}
use Rattle.fl_script.specs.Words.{AreMessageWords}
use Rattle.fl_script.proofs.Found.{passed}
use Rattle.fl_script.proofs.words.message_from_words.Goals as goal

pub returns-in_err-message : goal.returns-in_err-message
returns-in_err-message c = passed _ c.from_residual.ensures.1 c.in_err-message.ensures (λ none message are. none message are)

pub returns : goal.returns
returns c = subst (λ message. AreMessageWords message c.args.caps.now c.args.bytes.now) (sym c.in_ok-new.ensures) c.in_ok-message.ensures
