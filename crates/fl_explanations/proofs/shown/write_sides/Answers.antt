use Rattle.fl_sink.specs.laws.Passing.{puts_then, puts_stop}
use Rattle.fl_explanations.proofs.shown.write_sides.Goals as goal

pub returns-in_err-write_list-clause-puts : goal.returns-in_err-write_list-clause-puts
returns-in_err-write_list-clause-puts g c =
    rw (← c.as_slice.ensures)
    (puts_stop _ _ c.in_err-write_list.ensures.puts.is c.from_residual.ensures.0)

pub returns-clause-puts : goal.returns-clause-puts
returns-clause-puts g c =
    rw (← c.as_slice.ensures, ← c.as_slice-2.ensures)
    (puts_then c.in_ok-write_list.ensures.puts.is c.write_list-2.ensures.puts)
