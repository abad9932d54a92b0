use Rattle.fl_aliases.specs.laws.Expanding.{one_expansion}
use Rattle.fl_aliases.proofs.laws.law_one_expansion.Goals as goal

pub returns : goal.returns
returns c = λ table line a b first second. one_expansion table first second
