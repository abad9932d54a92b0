use Rattle.fl_answers.proofs.Braces.{braces_some}
use Rattle.fl_sink.specs.laws.Passing.{puts_then, puts_stop}
use Rattle.fl_answers.proofs.listed.put_items.Goals as goal

pub returns-in_err-put_behind-in-Some-clause-puts : goal.returns-in_err-put_behind-in-Some-clause-puts
returns-in_err-put_behind-in-Some-clause-puts g c =
    rw (c.in-Some.ensures.cases.0, braces_some g.T.Listed.text _ _)
    (puts_stop _ _ c.in_err-put_behind-in-Some.ensures.puts.is c.from_residual.ensures.0)

pub returns-in_err-put_more-in-Some-clause-puts : goal.returns-in_err-put_more-in-Some-clause-puts
returns-in_err-put_more-in-Some-clause-puts g c =
    rw (c.in-Some.ensures.cases.0, braces_some g.T.Listed.text _ _)
    (puts_then c.in_ok-put_behind-in-Some.ensures.puts.is
    (puts_stop _ _ c.in_err-put_more-in-Some.ensures.puts.is
    c.from_residual-in_err-put_more-in-Some.ensures.0))

pub returns-in_ok-put_more-in-Some-clause-puts : goal.returns-in_ok-put_more-in-Some-clause-puts
returns-in_ok-put_more-in-Some-clause-puts g c =
    rw (c.in-Some.ensures.cases.0, braces_some g.T.Listed.text _ _)
    (puts_then c.in_ok-put_behind-in-Some.ensures.puts.is
    (puts_then c.in_ok-put_more-in-Some.ensures.puts.is c.put-in-Some.ensures.puts))
