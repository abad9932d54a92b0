use Rattle.std.proofs.Common.{rules}
use Rattle.fl_monitor.proofs.JobLemmas.{newborn_births}
use Rattle.fl_monitor.proofs.bench.Bench.proc.Goals as goal

pub returns : goal.returns
returns c = newborn_births c.args.self.now _ (search rules) c.bear.ensures
