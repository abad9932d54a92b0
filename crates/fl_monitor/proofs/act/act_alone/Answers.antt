use Rattle.std.proofs.Common.{◌∙◌, ap, sym}
use Rattle.fl_bench.specs.declared.process.Holding.TheVariants.{Idle}
use Rattle.fl_monitor.proofs.ActLemmas.{answers_of, act_busy, act_relabel, act_ask, act_drop, act_enter, act_mail, held_before, over}
use Rattle.fl_monitor.proofs.act.act_alone.Goals as goal

pub returns-in_default-clause-acts : goal.returns-in_default-clause-acts
returns-in_default-clause-acts g c = act_busy _ c.args.pid c.args.process.now c.args.act.now c.in_default.not-Idle

pub returns-in-Relabel-clause-acts : goal.returns-in-Relabel-clause-acts
returns-in-Relabel-clause-acts g c =
    over _ c.args.pid c.args.process.now c.args.act.now (λ s. record c.args.process.now { labels = c.relabel.new.labels; owned = Idle s }) c.caps.ensures
    (act_relabel _ c.args.pid c.args.process.now c.args.act.now _ (c.in-Idle.is ∙ ap Idle (sym c.caps.ensures)) _ _ c.in-Relabel.is c.relabel.ensures.relabels)

pub returns-in-Ask-clause-acts : goal.returns-in-Ask-clause-acts
returns-in-Ask-clause-acts g c =
    over _ c.args.pid c.args.process.now c.args.act.now (λ s. record c.args.process.now { owned = Idle s }) c.caps-in-Ask.ensures
    (act_ask _ c.args.pid c.args.process.now c.args.act.now _ (c.in-Idle.is ∙ ap Idle (sym c.caps-in-Ask.ensures)) _ c.in-Ask.is _ (answers_of c.effective.result _ c.reply_of-reply.ensures c.effective.ensures.answer))

pub returns-in-Drop-clause-acts : goal.returns-in-Drop-clause-acts
returns-in-Drop-clause-acts g c = act_drop _ c.args.pid c.args.process.now c.args.act.now _ c.in-Idle.is _ c.in-Drop.is _ c.lend-labels.ensures c.drop_cap.ensures.drops

pub returns-in-Enter-clause-acts : goal.returns-in-Enter-clause-acts
returns-in-Enter-clause-acts g c = act_enter _ c.args.pid c.args.process.now c.args.act.now _ c.in-Idle.is _ _ c.in-Enter.is c.enter.ensures.enters

pub returns-in-Mail-clause-acts : goal.returns-in-Mail-clause-acts
returns-in-Mail-clause-acts g c =
    over _ c.args.pid c.args.process.now c.args.act.now (λ s. record c.args.process.now { mailbox = c.do_mail.new.mailbox; owned = Idle s }) c.caps-in-Mail.ensures
    (act_mail _ c.args.pid c.args.process.now c.args.act.now _ (c.in-Idle.is ∙ ap Idle (sym c.caps-in-Mail.ensures)) _ c.in-Mail.is _ c.lend-labels-in-Mail.ensures (rw c.replace.ensures.value at c.do_mail.ensures.mails))

pub returns-in-Order-clause-acts : goal.returns-in-Order-clause-acts
returns-in-Order-clause-acts g c = rw c.in-Order.is (held_before _ c.args.pid c.args.process.now _ c.in-Idle.is c.order.ensures.acts)

pub returns-in-Emit-clause-acts : goal.returns-in-Emit-clause-acts
returns-in-Emit-clause-acts g c = rw c.in-Emit.is (held_before _ c.args.pid c.args.process.now _ c.in-Idle.is (c.emit.ensures.acts _ c.in-Emit.is))

pub emit-requires : goal.emit-requires
emit-requires g c = (_, c.in-Emit.is)
