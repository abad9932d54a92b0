use Rattle.fl_calls.specs.laws.OnlyBroken.{only_broken, never}
use Rattle.fl_calls.proofs.laws.law_only_broken.Goals as goal

pub returns-clause-broken : goal.returns-clause-broken
returns-clause-broken g c = λ old new e. only_broken old new e

pub returns-clause-never : goal.returns-clause-never
returns-clause-never g c = λ old new number. never old new number
