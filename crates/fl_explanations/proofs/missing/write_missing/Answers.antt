use Rattle.fl_explanations.proofs.Named.{missing_text}
use Rattle.fl_sink.specs.laws.Passing.{puts_then, puts_stop}
use Rattle.fl_explanations.proofs.missing.write_missing.Goals as goal

pub returns-in_err-write_head-clause-puts : goal.returns-in_err-write_head-clause-puts
returns-in_err-write_head-clause-puts g c =
    rw (missing_text c.args.caps.now c.len.result c.len.ensures)
    (puts_stop _ _ c.in_err-write_head.ensures.puts.is c.from_residual.ensures.0)

pub returns-clause-puts : goal.returns-clause-puts
returns-clause-puts g c =
    rw (missing_text c.args.caps.now c.len.result c.len.ensures, ← c.as_slice.ensures)
    (puts_then c.in_ok-write_head.ensures.puts.is c.write_caps.ensures.puts)
