use Rattle.std.proofs.Common.{ap}
use Rattle.fl_explanations.specs.Lines.{logged}
use Rattle.fl_sink.specs.laws.Passing.{puts_then, puts_stop}
use Rattle.fl_machine.proofs.answers.put_log.Goals as goal

pub returns-in_err-write_count-clause-puts : goal.returns-in_err-write_count-clause-puts
returns-in_err-write_count-clause-puts g c =
    rw (← ap (logged c.args.place) c.published.ensures, ← c.logged-ops.ensures)
    (puts_stop _ _ c.in_err-write_count.ensures.puts.is c.from_residual.ensures.0)

pub returns-clause-puts : goal.returns-clause-puts
returns-clause-puts g c =
    rw (← ap (logged c.args.place) c.published.ensures, ← c.logged-ops.ensures)
    (puts_then c.in_ok-write_count.ensures.puts.is c.write_lines.ensures.puts)
