use Rattle.std.proofs.lemmas.List.{take_rest}
use Rattle.fl_sink.proofs.SinkLemmas.{passes_more}
use Rattle.fl_sink.proofs.sink.write_out.Goals as goal

pub loop-rest-preserved : goal.loop-rest-preserved
loop-rest-preserved g c = rw take_rest (passes_more _ c.in-Ok.count c.loop-rest.invariant c.in-Ok.ensures.bytes)
