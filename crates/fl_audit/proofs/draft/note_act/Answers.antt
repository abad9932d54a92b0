-- What is noted of an act.
use Rattle.std.proofs.Common.{◌≡◌, ◌∙◌, ◌++◌, sym, ap, refl, rules, List, [], ◌∷◌, Ok}
use Rattle.std.proofs.lemmas.List.{append-nil}
use Rattle.fl_labels.specs.declared.cap.Cap.TheVariants.{Use}
use Rattle.fl_jobs.specs.declared.job.Act.TheVariants.{Order, Relabel, Ask, Spawn, Enter, Emit, Mail}
use Rattle.fl_bench.specs.Secrets.{digest_of}
use Rattle.fl_system.specs.Audit.{party, order_entries, mail_entries}
use Rattle.fl_system.specs.declared.admission.Admission.{Admission}
use Rattle.fl_system.specs.declared.admission.Admission.TheVariants.{Change, Yes, Grant, Emission, Entry}
use Rattle.fl_system.specs.declared.admission.Party.{Party}
use Rattle.fl_audit.specs.Drafts.{IsDrafted}
use Rattle.fl_audit.specs.Noted.{act_tunes}
use Rattle.fl_audit.proofs.Notes.{act_drafted, granted}
use Rattle.fl_audit.proofs.draft.note_act.Goals as goal

-- what was noted of this party was noted of the process
of : {p q : Party} (before after : List Admission) (entries : Party → List Admission) → p ≡ q
    → after ≡ before ++ entries p → after ≡ before ++ entries q
of before after entries is noted = noted ∙ ap (λ p. before ++ entries p) is

pub returns-in-Ask-clause-ok : goal.returns-in-Ask-clause-ok
returns-in-Ask-clause-ok c = λ p is tunes.
    let before = c.args.audit.now.items in
    let q = party c.args.asker.pid p in
    act_drafted c.args.asker.pid p (Ask c.in-Ask.cap) before _ c.in-Ask.is
    (IsDrafted.on_yes (Yes q c.in-Ask.cap)
    (of before _ (λ q. Yes q c.in-Ask.cap ∷ []) is c.in_ok-note-in-Ask.ensures.ok) (λ a. refl))

pub returns-in-Enter-clause-ok : goal.returns-in-Enter-clause-ok
returns-in-Enter-clause-ok c = λ p is tunes.
    let before = c.args.audit.now.items in
    let q = party c.args.asker.pid p in
    let login = c.in-Enter.login in
    act_drafted c.args.asker.pid p (Enter login c.in-Enter.secret) before _ c.in-Enter.is
    (IsDrafted.on_entry q login _ c.in-Enter.secret
    (of before _ (λ q. Entry q login (Use login) (digest_of c.in-Enter.secret) ∷ []) is c.in_ok-note_entry-in-Enter.ensures.ok) (λ a. refl))

pub returns-in_ok-note_order-in-Order-clause-ok : goal.returns-in_ok-note_order-in-Order-clause-ok
returns-in_ok-note_order-in-Order-clause-ok c = λ p is tunes.
    let before = c.args.audit.now.items in
    let q = party c.args.asker.pid p in
    act_drafted c.args.asker.pid p (Order c.in-Order.order) before _ c.in-Order.is
    (IsDrafted.always (order_entries q c.in-Order.order)
    (of before _ (λ q. order_entries q c.in-Order.order) is c.in_ok-note_order-in-Order.ensures.ok) (λ a. refl))

pub returns-in_ok-note_change-in-Relabel-default-Ok-clause-ok :
    goal.returns-in_ok-note_change-in-Relabel-default-Ok-clause-ok
returns-in_ok-note_change-in-Relabel-default-Ok-clause-ok c = λ p is tunes.
    let before = c.args.audit.now.items in
    let side = c.in-Relabel-default-Ok.side in
    let q = party c.args.asker.pid p in
    let act_is : c.args.act.now ≡ Relabel side (Ok c.in-Relabel-default-Ok.label) = search rules in
    act_drafted c.args.asker.pid p (Relabel side (Ok c.in-Relabel-default-Ok.label)) before _ act_is
    (IsDrafted.always (Change side q c.in-Relabel-default-Ok.label ∷ [])
    (of before _ (λ q. Change side q c.in-Relabel-default-Ok.label ∷ []) is (search rules)) (λ a. refl))

pub returns-in_ok-note_grant-in-Spawn-clause-ok : goal.returns-in_ok-note_grant-in-Spawn-clause-ok
returns-in_ok-note_grant-in-Spawn-clause-ok c = λ p is tunes.
    let before = c.args.audit.now.items in
    let q = party c.args.asker.pid p in
    act_drafted c.args.asker.pid p (Spawn c.in-Spawn.caps) before _ c.in-Spawn.is
    (IsDrafted.always (Grant q c.in-Spawn.caps ∷ [])
    (of before _ (λ q. Grant q c.in-Spawn.caps ∷ []) is
    (c.in_ok-note_grant-in-Spawn.ensures.ok
    ∙ ap (λ l. before ++ l) (granted c.args.asker _ _ c.as_slice.ensures
    ∙ ap (λ s. Grant c.args.asker s ∷ []) c.deref.ensures)))
    (λ a. refl))

pub returns-in_ok-note-in-Emit-clause-ok : goal.returns-in_ok-note-in-Emit-clause-ok
returns-in_ok-note-in-Emit-clause-ok c = λ p is tunes.
    let before = c.args.audit.now.items in
    act_drafted c.args.asker.pid p (Emit c.in-Emit.field-0) before _ c.in-Emit.is
    (IsDrafted.always (Emission (party c.args.asker.pid p) ∷ [])
    (of before _ (λ q. Emission q ∷ []) is c.in_ok-note-in-Emit.ensures.ok) (λ a. refl))

pub returns-in_ok-note_mail-in-Mail-clause-ok : goal.returns-in_ok-note_mail-in-Mail-clause-ok
returns-in_ok-note_mail-in-Mail-clause-ok c = λ p is tunes.
    let before = c.args.audit.now.items in
    act_drafted c.args.asker.pid p (Mail c.in-Mail.mail) before _ c.in-Mail.is
    (IsDrafted.always (mail_entries (party c.args.asker.pid p) p.mailbox c.in-Mail.mail)
    (of before _ (λ q. mail_entries q p.mailbox c.in-Mail.mail) is (c.in_ok-note_mail-in-Mail.ensures.ok p.mailbox (sym (ap (act_tunes p) c.in-Mail.is) ∙ tunes))) (λ a. refl))

pub returns-in-Relabel-default-Err-clause-ok : goal.returns-in-Relabel-default-Err-clause-ok
returns-in-Relabel-default-Err-clause-ok c = λ p is tunes. IsDrafted.always [] (sym (append-nil c.args.audit.now.items)) (λ a. search rules)
