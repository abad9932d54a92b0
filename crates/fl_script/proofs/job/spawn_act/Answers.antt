use Rattle.fl_script.proofs.Found.{passed}
use Rattle.fl_script.proofs.SpawnWords.{no_spawn}
use Rattle.fl_script.proofs.job.spawn_act.Goals as goal

pub returns-in_err-caps : goal.returns-in_err-caps
returns-in_err-caps c = λ p. passed _ c.from_residual.ensures.1 c.in_err-caps.ensures.ok (λ none. no_spawn c.args.rest.now _ none p)
