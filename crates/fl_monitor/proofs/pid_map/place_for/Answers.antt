use Rattle.std.proofs.Common.{sym, ◌∙◌}
use Rattle.fl_monitor.proofs.SlotLemmas.{behind_last}
use Rattle.fl_monitor.proofs.pid_map.place_for.Goals as goal

pub returns-in-Some-clause-err : goal.returns-in-Some-clause-err
returns-in-Some-clause-err g c =
    behind_last c.args.slots.now c.args.pid c.in-Some.last.now c.cmp.result c.requires
    (sym c.in-Some.ensures.value) c.cmp.ensures (sym c.is_lt.ensures ∙ c.if-is_lt.true)
