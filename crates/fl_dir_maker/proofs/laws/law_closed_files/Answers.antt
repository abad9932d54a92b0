use Rattle.fl_dir_maker.proofs.Closed.{closed_both, closed_alone}
use Rattle.fl_dir_maker.proofs.laws.law_closed_files.Goals as goal

pub returns-clause-both : goal.returns-clause-both
returns-clause-both g c = closed_both

pub returns-clause-alone : goal.returns-clause-alone
returns-clause-alone g c = closed_alone
