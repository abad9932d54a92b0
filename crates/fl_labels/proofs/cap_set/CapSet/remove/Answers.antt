use Rattle.std.proofs.Common.{refl, sym, Ok, Err}
use Rattle.fl_labels.specs.CapOrder.{cap_total, cap_exact}
use Rattle.fl_labels.specs.laws.SortedVec.{answers, removed, kept_remove}
use Rattle.fl_labels.proofs.UsesKept.{moved, apart_as}
use Rattle.fl_labels.proofs.cap_set.CapSet.remove.Goals as goal

pub invariant_of-self : goal.invariant_of-self
invariant_of-self c =
    let new = removed cap_total cap_exact _ _ c.self.invariant.rises c.self.view_is _ c.as_slice.ensures c.args.cap _ _ c.in-Ok.ensures.bound c.in-Ok.ensures.position c.remove.ensures.items in
    apart_as _ _ _ new.rises new.view (c.take_use.ensures.uses _ (moved _ _ _ _ (sym c.self.view_is) refl c.self.invariant.apart)) c.remove.ensures.fits c.take_use.ensures.fits

pub returns-in-Ok-clause-after : goal.returns-in-Ok-clause-after
returns-in-Ok-clause-after c =
    (removed cap_total cap_exact _ _ c.self.invariant.rises c.self.view_is _ c.as_slice.ensures c.args.cap _ _ c.in-Ok.ensures.bound c.in-Ok.ensures.position c.remove.ensures.items).view

pub returns-in-Ok-clause-was : goal.returns-in-Ok-clause-was
returns-in-Ok-clause-was c =
    sym (answers cap_total cap_exact _ _ c.self.invariant.rises c.self.view_is _ c.as_slice.ensures c.args.cap (Ok c.in-Ok.place) c.in-Ok.ensures.bound c.in-Ok.ensures.position)

pub returns-in-Err-clause-after : goal.returns-in-Err-clause-after
returns-in-Err-clause-after c =
    kept_remove cap_total cap_exact _ _ c.self.invariant.rises c.self.view_is _ c.as_slice.ensures c.args.cap _ c.in-Err.ensures.bound c.in-Err.ensures.position

pub returns-in-Err-clause-was : goal.returns-in-Err-clause-was
returns-in-Err-clause-was c =
    sym (answers cap_total cap_exact _ _ c.self.invariant.rises c.self.view_is _ c.as_slice.ensures c.args.cap (Err c.in-Err.field-0) c.in-Err.ensures.bound c.in-Err.ensures.position)
