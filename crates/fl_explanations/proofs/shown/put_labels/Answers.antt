use Rattle.std.proofs.lemmas.List.{append_assoc}
use Rattle.fl_labels.specs.Text.{label_text}
use Rattle.fl_sink.specs.laws.Passing.{puts_then, puts_stop}
use Rattle.fl_explanations.proofs.shown.put_labels.Goals as goal

pub returns-in_err-put_side-clause-puts : goal.returns-in_err-put_side-clause-puts
returns-in_err-put_side-clause-puts g c =
    rw (← append_assoc c.args.before.now (label_text c.args.labels.now.secrecy) _)
    (puts_stop _ _ c.in_err-put_side.ensures.puts.is c.from_residual.ensures.0)

pub returns-clause-puts : goal.returns-clause-puts
returns-clause-puts g c =
    rw (← append_assoc c.args.before.now (label_text c.args.labels.now.secrecy) _)
    (puts_then c.in_ok-put_side.ensures.puts.is c.put_side-2.ensures.puts)
