use Rattle.fl_machine_lines.proofs.Lines.{begin_brings, starved}
use Rattle.fl_machine_lines.proofs.asked.begin_receive_asked.Goals as goal

pub returns-in_err-bytes-clause-memory : goal.returns-in_err-bytes-clause-memory
returns-in_err-bytes-clause-memory c =
    starved _ (begin_brings c.args.node.now c.args.rest.now c.in-len1.len_at_least
    c.in-len1.len_below)

pub returns-in_err-new-clause-memory : goal.returns-in_err-new-clause-memory
returns-in_err-new-clause-memory c =
    starved _ (begin_brings c.args.node.now c.args.rest.now c.in-len1.len_at_least
    c.in-len1.len_below)
