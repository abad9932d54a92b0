use Rattle.std.proofs.Common.{IfOk, OnErr, ◌<◌, length, subst, arith}
use Rattle.fl_gossip.specs.Replying.{AreInDeltas}
use Rattle.fl_gossip.proofs.Deltas.{front_wanted}
use Rattle.fl_gossip.proofs.replying.reply_front.Goals as goal

pub returns-clause-ok : goal.returns-clause-ok
returns-clause-ok c =
    let same = front_wanted c.args.saved.now c.args.window.now c.args.most _ _ _ c.saturating_mul.ensures c.len.ensures (omega arith) c.min-wanted.ensures in
    subst (λ ops. IfOk c.reply_of.result (λ packets. AreInDeltas ops packets.items)) same c.reply_of.ensures.ok

pub returns-clause-wants : goal.returns-clause-wants
returns-clause-wants c =
    let same = front_wanted c.args.saved.now c.args.window.now c.args.most _ _ _ c.saturating_mul.ensures c.len.ensures (omega arith) c.min-wanted.ensures in
    subst (λ ops. OnErr c.reply_of.result (0 < length ops)) same c.reply_of.ensures.wants
