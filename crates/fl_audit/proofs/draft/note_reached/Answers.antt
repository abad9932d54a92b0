-- A question is noted where there is room for it.
use Rattle.std.proofs.Common.{refl}
use Rattle.fl_system.specs.declared.admission.Admission.TheVariants.{Reached}
use Rattle.fl_audit.specs.Drafts.{IsDrafted}
use Rattle.fl_audit.proofs.draft.note_reached.Goals as goal

pub returns-clause-ok : goal.returns-clause-ok
returns-clause-ok c =
    IsDrafted.on_yes (Reached c.args.number c.args.boot c.args.root c.args.cap) c.in_ok-note.ensures.ok (λ a. refl)
