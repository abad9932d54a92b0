use Rattle.fl_sink.specs.laws.Passing.{puts_then, puts_stop}
use Rattle.fl_explanations.proofs.Named.{who_text}
use Rattle.fl_explanations.proofs.naming.write_who.Goals as goal

pub returns-in_err-write_head-clause-puts : goal.returns-in_err-write_head-clause-puts
returns-in_err-write_head-clause-puts g c =
    rw (who_text c.args.who.now c.count_of.result c.count_of.ensures)
    (puts_stop _ _ c.in_err-write_head.ensures.puts.is c.from_residual.ensures.0)

pub returns-in_err-write_everybody-clause-puts : goal.returns-in_err-write_everybody-clause-puts
returns-in_err-write_everybody-clause-puts g c =
    rw (who_text c.args.who.now c.count_of.result c.count_of.ensures)
    (puts_then c.in_ok-write_head.ensures.puts.is
    (puts_stop _ _ c.in_err-write_everybody.ensures.puts.is
    c.from_residual-in_err-write_everybody.ensures.0))

pub returns-in_err-write_pids-clause-puts : goal.returns-in_err-write_pids-clause-puts
returns-in_err-write_pids-clause-puts g c =
    rw (who_text c.args.who.now c.count_of.result c.count_of.ensures)
    (puts_then c.in_ok-write_head.ensures.puts.is
    (puts_then c.in_ok-write_everybody.ensures.puts.is
    (puts_stop _ _ (rw c.deref.ensures.value at c.in_err-write_pids.ensures.puts.is)
    c.from_residual-in_err-write_pids.ensures.0)))

pub returns-in_err-write_groups-clause-puts : goal.returns-in_err-write_groups-clause-puts
returns-in_err-write_groups-clause-puts g c =
    rw (who_text c.args.who.now c.count_of.result c.count_of.ensures)
    (puts_then c.in_ok-write_head.ensures.puts.is
    (puts_then c.in_ok-write_everybody.ensures.puts.is
    (puts_then (rw c.deref.ensures.value at c.in_ok-write_pids.ensures.puts.is)
    (puts_stop _ _ (rw c.deref-2.ensures.value at c.in_err-write_groups.ensures.puts.is)
    c.from_residual-in_err-write_groups.ensures.0))))

pub returns-clause-puts : goal.returns-clause-puts
returns-clause-puts g c =
    rw (
      who_text c.args.who.now c.count_of.result c.count_of.ensures,
      ← c.deref.ensures.value,
      ← c.deref-2.ensures.value,
      ← c.deref-3.ensures.value,
    )
    (puts_then c.in_ok-write_head.ensures.puts.is
    (puts_then c.in_ok-write_everybody.ensures.puts.is
    (puts_then c.in_ok-write_pids.ensures.puts.is
    (puts_then c.in_ok-write_groups.ensures.puts.is c.write_logins.ensures.puts))))
