-- A message that is sent is noted.
use Rattle.std.proofs.Common.{◌∙◌, ◌++◌, sym, ap, [], ◌∷◌}
use Rattle.std.proofs.lemmas.Result.{on_ok_weaker}
use Rattle.fl_message.specs.declared.message.Message.{Message}
use Rattle.fl_system.specs.Audit.{mail_entries}
use Rattle.fl_system.specs.declared.admission.Admission.TheVariants.{Grant}
use Rattle.fl_audit.proofs.Notes.{granted}
use Rattle.fl_audit.proofs.draft.note_mail.Goals as goal

pub returns-in-Send-clause-ok : goal.returns-in-Send-clause-ok
returns-in-Send-clause-ok c =
    let p = c.args.asker in
    on_ok_weaker c.note_grant.result
    (λ h ch tunes. h ∙ ap (λ l. c.args.audit.now.items ++ l)
    (granted p _ _ c.as_slice.ensures
    ∙ ap (λ (m : Message). Grant p m.caps ∷ []) c.deref-in-Send.ensures
    ∙ ap (mail_entries p ch) (sym c.in-Send.is)))
    c.note_grant.ensures.ok
