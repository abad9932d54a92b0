use Rattle.fl_aliases.specs.laws.TargetWords.{target_some, target_in_word}
use Rattle.fl_aliases.proofs.laws.law_target_in_word.Goals as goal

pub returns-clause-some : goal.returns-clause-some
returns-clause-some c = target_some

pub returns-clause-in_word : goal.returns-clause-in_word
returns-clause-in_word c = target_in_word
