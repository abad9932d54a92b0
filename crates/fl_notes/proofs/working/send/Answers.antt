use Rattle.std.proofs.Common.{◌∙◌, sym, ap, subst, Ok, Err}
use Rattle.fl_system.specs.Jobs.{Jobs}
use Rattle.fl_system.specs.Audit.{entries}
use Rattle.fl_system.specs.declared.reply.Reply.TheVariants.{Refused}
use Rattle.fl_notes.specs.Working.{Worked}
use Rattle.fl_notes.proofs.WorkLemmas.{done, not_done, sends_in_room, take_back, unready}
use Rattle.fl_notes.proofs.working.send.Goals as goal

pub returns-in-Err-clause-works : goal.returns-in-Err-clause-works
returns-in-Err-clause-works g c =
    subst (λ n. Worked c.args.number c.args.node.now.node c.args.look.desk c.args.look.upto c.args.job.now (Refused c.in-Err.fault) n
    c.args.sent.now.items c.prepare_sending.new.sent.items c.args.audit.now.items c.prepare_sending.new.audit.items)
    (sym (ap (λ o. o.node) c.prepare_sending.ensures.same))
    (unready c.args.number c.args.node.now.node c.args.look.desk c.args.look.upto c.args.job.now c.args.sent.now.items c.args.audit.now.items _ _ c.in-Err.fault
    c.prepare_sending.ensures.sent c.in-Err.ensures.audit c.requires c.in-Err.ensures.err)

pub show_sent-requires : goal.show_sent-requires
show_sent-requires g c d is =
    sends_in_room c.args.node.now.node c.args.look.desk c.args.look.upto c.args.job.now d c.job.new.self.node c.in-Ok.made.sender _ _
    (subst (λ a. Jobs c.args.node.now.node c.args.look.desk c.args.look.upto c.args.job.now (Ok a) c.job.new.self.node) is
    (subst (λ n. Jobs n c.args.look.desk c.args.look.upto c.args.job.now (Ok c.in-Ok-job.answer) c.job.new.self.node) (ap (λ o. o.node) c.prepare_sending.ensures.same) c.in-Ok-job.ensures.job))
    c.in-Ok.ensures.sender c.in-Ok.ensures.room

pub returns-in-Ok-job-clause-works : goal.returns-in-Ok-job-clause-works
returns-in-Ok-job-clause-works g c =
    done c.args.number c.args.node.now.node c.args.look.desk c.args.look.upto c.args.job.now c.args.sent.now.items c.args.audit.now.items c.prepare_sending.new.sent.items _ _
    c.in-Ok-job.answer c.job.new.self.node c.show_sent.result c.in-Ok.made.sender c.prepare_sending.ensures.sent
    (subst (λ n. Jobs n c.args.look.desk c.args.look.upto c.args.job.now (Ok c.in-Ok-job.answer) c.job.new.self.node) (ap (λ o. o.node) c.prepare_sending.ensures.same) c.in-Ok-job.ensures.job) c.in-Ok.ensures.sender
    (c.settle.ensures c.args.audit.now.items (entries c.args.node.now.node c.args.job.now) (sym (c.len-from.ensures ∙ c.args.audit.now.ok.0)) c.in-Ok.ensures.drafts)
    c.show_sent.ensures

pub returns-in-Err-job-clause-works : goal.returns-in-Err-job-clause-works
returns-in-Err-job-clause-works g c =
    subst (λ r. Worked c.args.number c.args.node.now.node c.args.look.desk c.args.look.upto c.args.job.now r c.job.new.self.node
    c.args.sent.now.items c.prepare_sending.new.sent.items c.args.audit.now.items c.refuse.new.audit.items) (sym c.refuse.ensures.shown)
    (not_done c.args.number c.args.node.now.node c.args.look.desk c.args.look.upto c.args.job.now c.args.sent.now.items c.args.audit.now.items _ _ c.in-Err-job.fault
    c.job.new.self.node c.prepare_sending.ensures.sent
    (c.refuse.ensures.audit ∙ take_back c.args.audit.now.items _ _ _ c.len-from.result (sym (c.len-from.ensures ∙ c.args.audit.now.ok.0)) c.in-Ok.ensures.drafts)
    (subst (λ n. Jobs n c.args.look.desk c.args.look.upto c.args.job.now (Err c.in-Err-job.fault) c.job.new.self.node) (ap (λ o. o.node) c.prepare_sending.ensures.same) c.in-Err-job.ensures.job))
