use Rattle.std.proofs.Common.{◌∙◌, arith}
use Rattle.fl_settling.proofs.Cutting.{one_more, all_given_up}
use Rattle.fl_settling.proofs.giving_up.give_up_all.Goals as goal

pub loop-entry-preserved : goal.loop-entry-preserved
loop-entry-preserved c =
    let at = c.loop-entry in
    rw c.fault_of.ensures
    (one_more c.args.failed c.args.worker c.args.entries.now at.entries at.entry-index
    c.entry-item.result (omega arith) at.invariant)

pub returns : goal.returns
returns c =
    c.loop-entry.invariant
    ∙ all_given_up c.args.failed c.args.worker c.args.entries.now c.loop-entry.entry-index
    (omega arith)
