-- What is noted of who asks may be noted.
use Rattle.std.proofs.Common.{◌∙◌, sym, ap}
use Rattle.std.specs.Option.{option_copied}
use Rattle.fl_audit.proofs.Notes.{noted_may}
use Rattle.fl_audit.proofs.draft.names_asker.Goals as goal

pub returns-in-Some-By-clause-may_be : goal.returns-in-Some-By-clause-may_be
returns-in-Some-By-clause-may_be c e number boot =
    noted_may number boot (option_copied c.args.asker) c.args.job.now _ c.in-Some-By.process.now c.in-Some-By.act
    c.in-Some-By.is-1 (ap option_copied c.in-Some-By.is-0) (sym c.notes_act.ensures ∙ e)
