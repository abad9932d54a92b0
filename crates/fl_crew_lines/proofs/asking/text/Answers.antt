use Rattle.fl_crew_lines.proofs.Serving.{text_starved, text_stopped, text_told}
use Rattle.fl_crew_lines.proofs.asking.text.Goals as goal

pub returns-in-Err : goal.returns-in-Err
returns-in-Err g c =
    text_stopped c.args.crews.now c.args.number c.in-Err.fault c.refused.result c.requires c.in-Err.ensures.err c.refused.ensures

pub returns-in-Ok-published : goal.returns-in-Ok-published
returns-in-Ok-published g c =
    text_told c.args.crews.now c.args.number c.in-Ok.node.now c.in-Ok-published.all c.in-Ok.ensures.ok c.in-Ok-published.ensures.ok

pub returns-in-Err-published : goal.returns-in-Err-published
returns-in-Err-published g c =
    text_starved c.args.crews.now c.args.number c.in-Ok.node.now c.refused-in-Err-published.result c.in-Ok.ensures.ok
    c.in-Err-published.ensures.wants c.refused-in-Err-published.ensures
