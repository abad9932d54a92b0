use Rattle.fl_script.proofs.LabelWord.{no_label}
use Rattle.fl_script.proofs.words.label_from_word.Goals as goal

pub returns-in-Err-TooLong-clause-ok : goal.returns-in-Err-TooLong-clause-ok
returns-in-Err-TooLong-clause-ok c = let many = c.from_text.ensures.too_long (cc) in record { tags = many.0; listed = many.1; long = many.2 }

pub returns-in-Err-BadText-clause-ok : goal.returns-in-Err-BadText-clause-ok
returns-in-Err-BadText-clause-ok c = λ bad. no_label c.args.word.now (c.from_text.ensures.bad_text (cc))
