use Rattle.fl_script.proofs.Found.{passed}
use Rattle.fl_script.proofs.SendWords.{no_ends, no_message}
use Rattle.fl_script.proofs.job.send_act.Goals as goal

pub returns-in_default-ends_from_words : goal.returns-in_default-ends_from_words
returns-in_default-ends_from_words c = λ p bad. no_ends c.args.rest.now _ _ _ (λ from receiver to is. c.in_default-ends_from_words.ensures (record { from = from; receiver = receiver; to = to }) is) p

pub returns-in_err-message : goal.returns-in_err-message
returns-in_err-message c = λ p. passed _ c.from_residual.ensures.1 c.in_err-message.ensures (λ none. no_message c.args.rest.now _ _ none p)
