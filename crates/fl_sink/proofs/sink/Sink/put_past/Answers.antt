use Rattle.std.proofs.Common.{◌∙◌}
use Rattle.fl_sink.proofs.SinkLemmas.{puts_written}
use Rattle.fl_sink.proofs.sink.Sink.put_past.Goals as goal

pub returns-clause-puts : goal.returns-clause-puts
returns-clause-puts g c =
    puts_written (c.if-hold.ensures.refused ∙ c.in_ok-finish.ensures.empty) c.in_ok-finish.ensures.writes.is c.write_out.ensures.writes
