use Rattle.fl_sink.specs.laws.Passing.{passes_then, puts_stop}
use Rattle.fl_crew_session.proofs.Telling.{puts_behind}
use Rattle.fl_crew_session.proofs.told.Told.write.Goals as goal

pub returns-in_err-worst-clause-puts : goal.returns-in_err-worst-clause-puts
returns-in_err-worst-clause-puts g c = puts_stop _ _ c.in_err-worst.ensures.puts.is c.from_residual.ensures.0

pub returns-in_err-write_own-clause-puts : goal.returns-in_err-write_own-clause-puts
returns-in_err-write_own-clause-puts g c =
    puts_behind c.in_ok-worst.ensures.puts.is c.in_err-write_own.ensures.puts.is c.from_residual-in_err-write_own.ensures.0

pub returns-clause-puts : goal.returns-clause-puts
returns-clause-puts g c =
    record { is = passes_then _ _ _ c.in_ok-worst.ensures.puts.is c.in_ok-write_own.ensures.puts.is }
