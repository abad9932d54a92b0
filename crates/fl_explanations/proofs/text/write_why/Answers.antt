use Rattle.std.proofs.lemmas.List.Folds.{flat_map-map}
use Rattle.fl_sink.specs.laws.Passing.{puts_then, puts_stop}
use Rattle.fl_explanations.specs.Lines.{step_line}
use Rattle.fl_explanations.proofs.text.write_why.Goals as goal

pub returns-in_err-write_first-clause-puts : goal.returns-in_err-write_first-clause-puts
returns-in_err-write_first-clause-puts g c =
    puts_stop _ _ c.in_err-write_first.ensures.puts.is c.from_residual.ensures.0

pub returns-clause-puts : goal.returns-clause-puts
returns-clause-puts g c =
    rw (flat_map-map (λ line. line) step_line c.args.why.now.steps.items, ← c.deref.ensures.value)
    (puts_then c.in_ok-write_first.ensures.puts.is c.write_steps.ensures.puts)
