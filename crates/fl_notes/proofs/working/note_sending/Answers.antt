use Rattle.std.proofs.Common.{◌∙◌, ap, sym, subst}
use Rattle.std.specs.Prelude.{IsSome}
use Rattle.fl_sink.specs.laws.Passing.{on_err_always}
use Rattle.fl_audit.specs.Drafts.{asker_of}
use Rattle.fl_audit.specs.Noted.{job_tunes}
use Rattle.fl_notes.proofs.WorkLemmas.{sender_noted}
use Rattle.fl_notes.proofs.working.note_sending.Goals as goal

pub returns-in_err-sender-clause-err : goal.returns-in_err-sender-clause-err
returns-in_err-sender-clause-err g c =
    on_err_always _ (sender_noted c.args.node.now.node c.args.job.now
    (c.in_err-sender.ensures.err _ c.in_ok-standing.ensures.noted))

pub returns-in_err-take_room-clause-err : goal.returns-in_err-take_room-clause-err
returns-in_err-take_room-clause-err g c =
    on_err_always _ (sender_noted c.args.node.now.node c.args.job.now
    (subst IsSome (c.in_ok-sender.ensures.ok _ c.in_ok-standing.ensures.noted) c.in_err-take_room.ensures.err))

pub returns-clause-drafts : goal.returns-clause-drafts
returns-clause-drafts g c =
    let same = c.share.ensures.same in
    c.in_ok-draft.ensures.ok c.args.node.now.node (record {
      number_is = sym (c.number.ensures.number ∙ ap (λ o. o.node.number) same);
      boot_is = sym (c.boot.ensures.boot ∙ ap (λ o. o.node.boot) same);
      tuned_is = sym (c.tuned.ensures ∙ ap (λ o. job_tunes (asker_of o.node c.args.job.now) c.args.job.now) same);
      stands = c.in_ok-standing.ensures.noted;
    })

pub returns-clause-sender : goal.returns-clause-sender
returns-clause-sender g c = c.in_ok-sender.ensures.ok _ c.in_ok-standing.ensures.noted
