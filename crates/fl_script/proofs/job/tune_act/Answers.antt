use Rattle.fl_script.proofs.Found.{passed}
use Rattle.fl_script.proofs.TuneWords.{no_tune}
use Rattle.fl_script.proofs.job.tune_act.Goals as goal

pub returns-in_err-given : goal.returns-in_err-given
returns-in_err-given c = λ p. passed _ c.from_residual-in_err-given.ensures.1 c.in_err-given.ensures.ok (λ none. no_tune c.args.rest.now _ _ none p)
