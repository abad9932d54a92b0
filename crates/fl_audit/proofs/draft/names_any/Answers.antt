use Rattle.std.proofs.Common.{◌∙◌, sym, refl, Some}
use Rattle.fl_audit.proofs.Notes.{noted_may}
use Rattle.fl_audit.proofs.OfAny.{of_any}
use Rattle.fl_audit.proofs.draft.names_any.Goals as goal

pub returns-in-By-clause-may_be : goal.returns-in-By-clause-may_be
returns-in-By-clause-may_be c e number boot p =
    noted_may number boot (Some p) c.args.job.now _ p c.in-By.act c.in-By.is refl (of_any c.in-By.act (sym c.notes_of_any.ensures ∙ e) p)
