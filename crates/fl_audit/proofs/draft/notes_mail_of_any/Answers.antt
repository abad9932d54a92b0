-- A new process has no endpoint to tune.
use Rattle.std.proofs.Common.{◌∙◌, sym, ap}
use Rattle.fl_mailbox.specs.Mailbox.{closed}
use Rattle.fl_audit.specs.Noted.{mail_noted}
use Rattle.fl_audit.proofs.OfAny.{none_tuned}
use Rattle.fl_audit.proofs.draft.notes_mail_of_any.Goals as goal

pub returns-in-Tune : goal.returns-in-Tune
returns-in-Tune c = sym (ap (mail_noted closed) c.in-Tune.is ∙ none_tuned _ _)
