use Rattle.fl_monitor.proofs.holder.near.Given as goal

abbrev pub invariant-loop-near : goal.invariant-loop-near
invariant-loop-near l = Unit {0}
