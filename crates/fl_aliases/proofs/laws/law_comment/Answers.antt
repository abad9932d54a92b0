use Rattle.fl_aliases.specs.laws.WordByWord.{same_comment}
use Rattle.fl_aliases.proofs.laws.law_comment.Goals as goal

pub returns : goal.returns
returns c = λ table line out h. same_comment table h
