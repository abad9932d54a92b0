use Rattle.fl_script.proofs.words.caps_from_word.Goals as goal

pub returns-in-Err-BadText-clause-ok : goal.returns-in-Err-BadText-clause-ok
returns-in-Err-BadText-clause-ok c = λ bad. c.from_text.ensures.bad_text (cc)
