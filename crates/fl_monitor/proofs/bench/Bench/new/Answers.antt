use Rattle.fl_monitor.proofs.Kept.{opened_kept}
use Rattle.fl_monitor.proofs.bench.Bench.new.Goals as goal

pub invariant_of-result : goal.invariant_of-result
invariant_of-result c = (c.requires.node_known, (c.requires.boot_known, opened_kept c.args.node c.args.boot c.args.index c.args.stride _ _ c.from.ensures c.new.ensures c.requires.index_from_one c.requires.index_within))
