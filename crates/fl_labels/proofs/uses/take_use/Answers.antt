use Rattle.std.proofs.Common.{refl, sym, ◌∙◌, Err}
use Rattle.std.proofs.lemmas.Bool.{false≢true}
use Rattle.fl_labels.specs.CapOrder.{cap_total, cap_exact}
use Rattle.fl_labels.specs.laws.SortedVec.{answers, removed, kept_remove}
use Rattle.fl_labels.proofs.UsesKept.{use_taken}
use Rattle.fl_labels.proofs.uses.take_use.Goals as goal

pub returns-in-Ok-clause-rises : goal.returns-in-Ok-clause-rises
returns-in-Ok-clause-rises c =
    (removed cap_total cap_exact _ _ c.requires.rises refl _ c.as_slice.ensures c.args.cap _ _ c.in-Ok.ensures.bound c.in-Ok.ensures.position c.remove.ensures.items).rises

pub returns-in-Ok-clause-uses : goal.returns-in-Ok-clause-uses
returns-in-Ok-clause-uses c =
    let out = removed cap_total cap_exact _ _ c.requires.rises refl _ c.as_slice.ensures c.args.cap _ _ c.in-Ok.ensures.bound c.in-Ok.ensures.position c.remove.ensures.items in
    λ s. use_taken s _ _ c.args.cap out.rises out.view

pub returns-in_default-clause-uses : goal.returns-in_default-clause-uses
returns-in_default-clause-uses c = λ s. use_taken s _ _ c.args.cap c.requires.rises
    (kept_remove cap_total cap_exact _ _ c.requires.rises refl _ c.as_slice.ensures c.args.cap _ c.in_default.ensures.bound c.in_default.ensures.position)

pub returns-in_default-clause-room : goal.returns-in_default-clause-room
returns-in_default-clause-room c = λ there. absurd (false≢true (sym (answers cap_total cap_exact _ _ c.requires.rises refl _ c.as_slice.ensures c.args.cap (Err c.in_default.field-0) c.in_default.ensures.bound c.in_default.ensures.position) ∙ there))
