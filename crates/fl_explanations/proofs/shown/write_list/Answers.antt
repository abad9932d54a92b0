use Rattle.fl_sink.specs.laws.Passing.{puts_then, puts_stop}
use Rattle.fl_explanations.proofs.shown.write_list.Goals as goal

pub returns-in_err-put-clause-puts : goal.returns-in_err-put-clause-puts
returns-in_err-put-clause-puts g c =
    puts_stop _ _ c.in_err-put.ensures.puts.is c.from_residual.ensures.0

pub returns-in_err-put_items-clause-puts : goal.returns-in_err-put_items-clause-puts
returns-in_err-put_items-clause-puts g c =
    puts_then c.in_ok-put.ensures.puts.is
    (puts_stop _ _ c.in_err-put_items.ensures.puts.is c.from_residual-in_err-put_items.ensures.0)

pub returns-clause-puts : goal.returns-clause-puts
returns-clause-puts g c =
    puts_then c.in_ok-put.ensures.puts.is
    (puts_then c.in_ok-put_items.ensures.puts.is c.put-2.ensures.puts)
