use Rattle.fl_crew_threads.specs.Receiving.{Decides}
use Rattle.fl_crew_threads.specs.Registers.{Registers}
use Rattle.fl_crew_threads.proofs.ruling.rule_all.Given as goal

abbrev pub invariant-loop : goal.invariant-loop
invariant-loop g l = record {
  rules : Registers g.K.Keeper.custody l.workers l.fn.registrar l.registrar;
  decides : Decides l.fn.registrar l.registrar;
}
