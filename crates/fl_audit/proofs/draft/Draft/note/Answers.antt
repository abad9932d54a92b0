-- What a process asks for may be noted where noting it takes memory.
use Rattle.std.proofs.Common.{sym, ap, rules, []}
use Rattle.std.proofs.lemmas.List.{append-nil}
use Rattle.fl_audit.specs.Drafts.{IsDrafted}
use Rattle.fl_audit.proofs.Copies.{if_ok}
use Rattle.fl_audit.proofs.Notes.{on_err, drafted_noted, may_be_noted, member_drafted, member_may}
use Rattle.fl_audit.proofs.draft.Draft.note.Goals as goal

pub returns-in-Some-clause-ok : goal.returns-in-Some-clause-ok
returns-in-Some-clause-ok c =
    if_ok c.note_act.result
    (drafted_noted c.args.number c.args.boot c.args.tuned c.args.standing c.args.job.now
    c.in-By.pid c.in-By.act c.in-Some.standing c.in-By.is c.in-Some.is _ _) c.note_act.ensures.ok

pub returns-in-Some-clause-err : goal.returns-in-Some-clause-err
returns-in-Some-clause-err c =
    may_be_noted c.args.number c.args.boot c.args.tuned c.args.standing c.args.job.now
    c.in-By.pid c.in-By.act c.in-Some.standing c.in-By.is c.in-Some.is c.note_act.result c.note_act.ensures.err

pub returns-in-None-clause-ok : goal.returns-in-None-clause-ok
returns-in-None-clause-ok c n noted = IsDrafted.always [] (sym (append-nil c.args.audit.now.items)) (λ a. search rules)

pub returns-in-Member-clause-ok : goal.returns-in-Member-clause-ok
returns-in-Member-clause-ok c =
    if_ok c.note_reached.result
    (member_drafted c.args.number c.args.boot c.args.tuned c.args.standing c.args.job.now c.in-Member.root c.in-Member.cap c.in-Member.is _ _)
    c.note_reached.ensures.ok

pub returns-in-Member-clause-err : goal.returns-in-Member-clause-err
returns-in-Member-clause-err c =
    on_err c.note_reached.result
    (member_may c.args.number c.args.boot c.args.tuned c.args.standing c.args.job.now c.in-Member.root c.in-Member.cap c.in-Member.is)

pub returns-in-Proc-clause-ok : goal.returns-in-Proc-clause-ok
returns-in-Proc-clause-ok c n noted = IsDrafted.always [] (sym (append-nil c.args.audit.now.items)) (λ a. search rules)
