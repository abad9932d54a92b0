use Rattle.fl_script.proofs.Quiet.{quiet_by_words}
use Rattle.fl_script.proofs.laws.law_quiet.Goals as goal

pub returns : goal.returns
returns c = quiet_by_words
