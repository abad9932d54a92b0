use Rattle.fl_aliases.specs.laws.WordByWord.{by_word}
use Rattle.fl_aliases.proofs.laws.law_words.Goals as goal

pub returns : goal.returns
returns c = by_word
