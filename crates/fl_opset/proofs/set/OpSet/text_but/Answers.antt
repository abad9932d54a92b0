use Rattle.fl_opset.proofs.Written.{finished, stopped}
use Rattle.fl_opset.proofs.set.OpSet.text_but.Goals as goal

pub returns-in_err-write_text_but-clause-writes : goal.returns-in_err-write_text_but-clause-writes
returns-in_err-write_text_but-clause-writes g c = stopped c.new-sink.ensures c.in_err-write_text_but.ensures.puts.is c.from_residual.ensures.0

pub returns-clause-writes : goal.returns-clause-writes
returns-clause-writes g c = finished c.new-sink.ensures c.in_ok-write_text_but.ensures.puts.is c.finish.ensures.writes
