use Rattle.std.proofs.Common.{sym, arith}
use Rattle.fl_monitor.proofs.Looks.{met_at}
use Rattle.fl_monitor.proofs.holder.near.Goals as goal

pub returns-then-eq : goal.returns-then-eq
returns-then-eq c =
    sym (met_at c.args.caps.now c.loop-near.near _ c.args.cap _ (omega (arith, c.loop-near-test.true, c.min-end.ensures)) c.index-caps-near.is c.eq.ensures c.if-eq.true)
