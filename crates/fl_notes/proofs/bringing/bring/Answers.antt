use Rattle.std.proofs.Common.{◌∙◌, ◌++◌, sym, ap, subst, Ok, Err}
use Rattle.fl_system.specs.Arrives.{Arrives}
use Rattle.fl_system.specs.declared.reply.Reply.TheVariants.{Refused}
use Rattle.fl_audit.specs.Drafts.{listed}
use Rattle.fl_notes.specs.Bringing.{Brought}
use Rattle.fl_notes.proofs.BringLemmas.{brought, not_brought, unready}
use Rattle.fl_notes.proofs.bringing.bring.Goals as goal

pub returns-in-Err-clause-brings : goal.returns-in-Err-clause-brings
returns-in-Err-clause-brings g c =
    subst (λ n. Brought c.args.node.now.node c.args.sender.now c.args.message.now (Refused c.in-Err.fault) n
    c.args.audit.now.items c.prepare.new.audit.items) (sym (ap (λ o. o.node) c.prepare.ensures.same))
    (unready c.args.node.now.node c.args.sender.now c.args.message.now c.args.audit.now.items _ c.in-Err.fault c.prepare.ensures.audit c.in-Err.ensures.err)

pub returns-in-Ok-arrive-clause-brings : goal.returns-in-Ok-arrive-clause-brings
returns-in-Ok-arrive-clause-brings g c =
    brought c.args.node.now.node c.args.sender.now c.args.message.now c.args.audit.now.items _ c.in-Ok.made.message c.in-Ok-arrive.reply c.arrive.new.self.node
    c.in-Ok.made.entry c.in-Ok.ensures.message c.in-Ok.ensures.entry
    (c.note.ensures ∙ ap (λ l. l ++ listed c.in-Ok.made.entry) c.prepare.ensures.audit)
    (subst (λ n. Arrives n c.in-Ok.made.message (Ok c.in-Ok-arrive.reply) c.arrive.new.self.node) (ap (λ o. o.node) c.prepare.ensures.same) c.in-Ok-arrive.ensures.arrives)

pub returns-in-Err-arrive-clause-brings : goal.returns-in-Err-arrive-clause-brings
returns-in-Err-arrive-clause-brings g c =
    not_brought c.args.node.now.node c.args.sender.now c.args.message.now c.args.audit.now.items _ c.in-Ok.made.message c.in-Err-arrive.fault c.arrive.new.self.node
    c.in-Ok.ensures.message c.prepare.ensures.audit
    (subst (λ n. Arrives n c.in-Ok.made.message (Err c.in-Err-arrive.fault) c.arrive.new.self.node) (ap (λ o. o.node) c.prepare.ensures.same) c.in-Err-arrive.ensures.arrives)
