use Rattle.fl_message.specs.declared.message.Message.{Message}
use Rattle.fl_script.specs.Words.{AreMessageWords}
use Rattle.fl_script.proofs.Found.{passed, reads}
use Rattle.fl_script.proofs.MessageWords.{of_words}
use Rattle.fl_script.proofs.words.bare_message.Goals as goal

pub returns-in_err-caps : goal.returns-in_err-caps
returns-in_err-caps c = passed _ c.from_residual.ensures.1 c.in_err-caps.ensures.ok (λ none message are. none message.caps are.caps)

pub returns-in_err-payload : goal.returns-in_err-payload
returns-in_err-payload c = passed _ c.from_residual-in_err-payload.ensures.1 c.in_err-payload.ensures.ok (λ none message are. none message.payload are.bytes)

pub returns : goal.returns
returns c = rw c.ok_or.ensures.value (reads {T = Message} (λ m. AreMessageWords m c.args.caps.now c.args.bytes.now) c.new.result (of_words c.args.caps.now c.args.bytes.now c.in_ok-caps.caps c.in_ok-payload.payload c.in_ok-caps.ensures.ok c.in_ok-payload.ensures.ok c.new.result c.new.ensures))
