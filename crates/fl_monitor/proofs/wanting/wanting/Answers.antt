use Rattle.fl_ops.specs.Registry.{Listed}
use Rattle.fl_monitor.proofs.Given.{on_err}
use Rattle.fl_monitor.proofs.Lacking.{all_of_nothing, all_wanting, none_while_busy, some_wanting}
use Rattle.fl_monitor.proofs.wanting.wanting.Goals as goal

pub returns-in_default-clause-ok : goal.returns-in_default-clause-ok
returns-in_default-clause-ok g c =
    let V = Listed (g.V.View.list c.args.view.now) in
    all_of_nothing _ _ c.new-wanting.ensures (none_while_busy c.args.guards V c.args.process.now c.args.act.now c.in_default.not-Idle)

pub returns-in_err-note_act-clause-err : goal.returns-in_err-note_act-clause-err
returns-in_err-note_act-clause-err g c =
    let V = Listed (g.V.View.list c.args.view.now) in
    on_err c.from_residual.result (some_wanting c.args.guards V c.args.process.now c.args.act.now _ _ c.in-Idle.is c.caps.ensures c.in_err-note_act.ensures.err)

pub returns-clause-ok : goal.returns-clause-ok
returns-clause-ok g c =
    let V = Listed (g.V.View.list c.args.view.now) in
    all_wanting c.args.guards V c.args.process.now c.args.act.now _ _ c.in-Idle.is c.caps.ensures _ _ c.new-wanting.ensures c.in_ok-note_act.ensures.ok
