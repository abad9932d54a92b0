use Rattle.std.proofs.Common.{[]}
use Rattle.fl_monitor.proofs.Kept.{receives_kept}
use Rattle.fl_monitor.proofs.bench.Bench.cancel.Goals as goal

pub invariant_of-self : goal.invariant_of-self
invariant_of-self c = let i = c.self.invariant in (i.0, (i.1.0, receives_kept i.1.1 _ c.args.pid [] c.cancel.ensures))
