-- An order that takes something may be noted.
use Rattle.std.proofs.Common.{◌∙◌, ap, sym, refl}
use Rattle.std.specs.Prelude.{not}
use Rattle.fl_bench.specs.Process.{newborn}
use Rattle.fl_audit.specs.Noted.{act_noted}
use Rattle.fl_audit.proofs.Notes.{taken_told}
use Rattle.fl_audit.proofs.draft.notes_of_any.Goals as goal

pub returns-in-Order : goal.returns-in-Order
returns-in-Order c =
    ap not (sym (taken_told _ _ (c.as_slice.ensures ∙ c.by.ensures) _ c.is_empty.ensures _ refl))
    ∙ sym (ap (act_noted newborn) c.in-Order.is)
