use Rattle.std.proofs.Common.{◌≡◌, true, ◌∙◌, arith}
use Rattle.fl_labels.specs.SetBy.{In}
use Rattle.fl_gossip.proofs.Meetings.{no_stray, first_stray}
use Rattle.fl_gossip.proofs.meeting.least_stray.Goals as goal

pub returns-then-not-contains : goal.returns-then-not-contains
returns-then-not-contains c =
    let s = c.args.there.now in
    let e = c.of_node-ops.ensures in
    first_stray (In s) (In c.args.owner.now) c.args.number c.of_node-ops.result.now
    e.only e.all
    e.rise _ c.op-item.result (omega arith) c.op-item.is c.loop-op.invariant
    (λ there. let r : c.contains.result ≡ true = c.contains.ensures ∙ there in absurd (cc))

pub returns : goal.returns
returns c =
    let s = c.args.there.now in
    let e = c.of_node-ops.ensures in
    no_stray (In s) (In c.args.owner.now) c.args.number c.of_node-ops.result.now
    e.only e.all
    c.loop-op.op-index (omega arith) c.loop-op.invariant
