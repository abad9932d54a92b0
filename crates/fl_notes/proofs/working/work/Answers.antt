use Rattle.std.proofs.Common.{◌∙◌, sym, ap, refl, subst, Ok, Err}
use Rattle.fl_system.specs.Jobs.{Jobs}
use Rattle.fl_system.specs.Audit.{entries}
use Rattle.fl_system.specs.declared.reply.Reply.TheVariants.{Refused}
use Rattle.fl_audit.specs.Drafts.{asker_of}
use Rattle.fl_audit.specs.Senders.{sender_of}
use Rattle.fl_notes.specs.Working.{Worked}
use Rattle.fl_notes.proofs.WorkLemmas.{done, not_done, sends_none, take_back, unready}
use Rattle.fl_notes.proofs.working.work.Goals as goal

pub returns-in-Err-clause-works : goal.returns-in-Err-clause-works
returns-in-Err-clause-works g c =
    subst (λ n. Worked c.args.number c.args.node.now.node c.args.look.desk c.args.look.upto c.args.job.now (Refused c.in-Err.fault) n
    c.args.sent.now.items c.args.sent.now.items c.args.audit.now.items c.prepare.new.audit.items)
    (sym (ap (λ o. o.node) c.prepare.ensures.same))
    (unready c.args.number c.args.node.now.node c.args.look.desk c.args.look.upto c.args.job.now c.args.sent.now.items c.args.audit.now.items _ _ c.in-Err.fault
    refl c.in-Err.ensures.audit c.requires c.in-Err.ensures.err)

pub show-requires : goal.show-requires
show-requires g c d =
    sends_none c.args.node.now.node c.args.look.desk c.args.look.upto c.args.job.now c.in-Ok-job.answer c.job.new.self.node
    (sym c.sends.ensures ∙ c.if-sends.false)
    (subst (λ n. Jobs n c.args.look.desk c.args.look.upto c.args.job.now (Ok c.in-Ok-job.answer) c.job.new.self.node) (ap (λ o. o.node) c.prepare.ensures.same) c.in-Ok-job.ensures.job) d

pub returns-in-Ok-job-clause-works : goal.returns-in-Ok-job-clause-works
returns-in-Ok-job-clause-works g c =
    done c.args.number c.args.node.now.node c.args.look.desk c.args.look.upto c.args.job.now c.args.sent.now.items c.args.audit.now.items c.args.sent.now.items _ _
    c.in-Ok-job.answer c.job.new.self.node c.show.result (sender_of (asker_of c.args.node.now.node c.args.job.now) c.args.job.now) refl
    (subst (λ n. Jobs n c.args.look.desk c.args.look.upto c.args.job.now (Ok c.in-Ok-job.answer) c.job.new.self.node) (ap (λ o. o.node) c.prepare.ensures.same) c.in-Ok-job.ensures.job) refl
    (c.settle.ensures c.args.audit.now.items (entries c.args.node.now.node c.args.job.now) (sym (c.len-from.ensures ∙ c.args.audit.now.ok.0)) c.in-Ok.ensures.drafts)
    (c.show.ensures c.args.number _ c.args.sent.now.items)

pub returns-in-Err-job-clause-works : goal.returns-in-Err-job-clause-works
returns-in-Err-job-clause-works g c =
    subst (λ r. Worked c.args.number c.args.node.now.node c.args.look.desk c.args.look.upto c.args.job.now r c.job.new.self.node
    c.args.sent.now.items c.args.sent.now.items c.args.audit.now.items c.refuse.new.audit.items) (sym c.refuse.ensures.shown)
    (not_done c.args.number c.args.node.now.node c.args.look.desk c.args.look.upto c.args.job.now c.args.sent.now.items c.args.audit.now.items _ _ c.in-Err-job.fault
    c.job.new.self.node refl
    (c.refuse.ensures.audit ∙ take_back c.args.audit.now.items _ _ _ c.len-from.result (sym (c.len-from.ensures ∙ c.args.audit.now.ok.0)) c.in-Ok.ensures.drafts)
    (subst (λ n. Jobs n c.args.look.desk c.args.look.upto c.args.job.now (Err c.in-Err-job.fault) c.job.new.self.node) (ap (λ o. o.node) c.prepare.ensures.same) c.in-Err-job.ensures.job))
