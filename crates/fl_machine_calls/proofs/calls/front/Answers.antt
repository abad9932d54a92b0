use Rattle.std.proofs.Common.{◌<◌, ◌*◌, subst, sym, length, take}
use Rattle.fl_labels.specs.SetBy.{In}
use Rattle.fl_opset.specs.Catching.{HaveNoClash}
use Rattle.fl_opset.specs.Windows.{lacking}
use Rattle.fl_gossip.specs.Replying.{AreInDeltas}
use Rattle.fl_machine_calls.proofs.Alone.{fronts, no_front}
use Rattle.fl_machine_calls.proofs.calls.front.Goals as goal

pub reply_front-requires : goal.reply_front-requires
reply_front-requires g c =
    subst (λ s. HaveNoClash (In s) (In s)) (sym c.saved.ensures.saved) c.saved.ensures.names

pub returns-in-Ok-clause-ok : goal.returns-in-Ok-clause-ok
returns-in-Ok-clause-ok g c =
    fronts g.K.Keeper.custody c.args.node.now c.args.window.now c.args.most c.in-Ok.packets.items
    c.requires c.saved.ensures.names
    (subst (λ s. AreInDeltas (take (64 * c.args.most) (lacking s c.args.window.now))
    c.in-Ok.packets.items) c.saved.ensures.saved c.in-Ok.ensures.ok)

pub returns-in-Err-clause-err : goal.returns-in-Err-clause-err
returns-in-Err-clause-err g c =
    no_front g.K.Keeper.custody c.args.node.now c.args.window.now c.args.most c.requires
    (subst (λ s. 0 < length (take (64 * c.args.most) (lacking s c.args.window.now)))
    c.saved.ensures.saved c.in-Err.ensures.wants)
