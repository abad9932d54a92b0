use Rattle.std.proofs.Common.{sym, ap, ◌∙◌, not, Result, Ok, Err, OnErr}
use Rattle.std.specs.List.{insert}
use Rattle.fl_labels.specs.CapOrder.{cap_total, cap_exact}
use Rattle.fl_labels.specs.laws.SortedVec.{answers, inserted, kept_insert}
use Rattle.fl_labels.proofs.UsesKept.{moved, apart_as}
use Rattle.fl_labels.proofs.cap_set.CapSet.insert.Goals as goal

pub invariant_of-self-in-Err : goal.invariant_of-self-in-Err
invariant_of-self-in-Err c =
    let new = inserted cap_total cap_exact _ _ c.self.invariant.rises c.self.view_is _ c.as_slice.ensures c.args.cap _ _ c.in-Err.ensures.bound c.in-Err.ensures.position (c.put.ensures.items ∙ ap (λ l. insert l c.in-Err.place c.args.cap) c.in_ok-make_room-in-Err-2.ensures.items) in
    apart_as _ _ _ new.rises new.view
    (c.put_use.ensures.uses _ (moved _ _ _ _ (sym c.self.view_is) c.in_ok-make_room-in-Err.ensures.same c.self.invariant.apart))
    c.put.ensures.fits c.put_use.ensures.fits

pub returns-in-Ok-clause-ok : goal.returns-in-Ok-clause-ok
returns-in-Ok-clause-ok c =
    kept_insert cap_total cap_exact _ _ c.self.invariant.rises c.self.view_is _ c.as_slice.ensures c.args.cap _ c.in-Ok.ensures.bound c.in-Ok.ensures.position

pub returns-in-Ok-clause-new : goal.returns-in-Ok-clause-new
returns-in-Ok-clause-new c =
    ap not (sym (answers cap_total cap_exact _ _ c.self.invariant.rises c.self.view_is _ c.as_slice.ensures c.args.cap (Ok c.in-Ok.field-0) c.in-Ok.ensures.bound c.in-Ok.ensures.position))

pub returns-in_ok-make_room-in-Err-2-clause-ok : goal.returns-in_ok-make_room-in-Err-2-clause-ok
returns-in_ok-make_room-in-Err-2-clause-ok c =
    (inserted cap_total cap_exact _ _ c.self.invariant.rises c.self.view_is _ c.as_slice.ensures c.args.cap _ _ c.in-Err.ensures.bound c.in-Err.ensures.position (c.put.ensures.items ∙ ap (λ l. insert l c.in-Err.place c.args.cap) c.in_ok-make_room-in-Err-2.ensures.items)).view

pub returns-in_ok-make_room-in-Err-2-clause-new : goal.returns-in_ok-make_room-in-Err-2-clause-new
returns-in_ok-make_room-in-Err-2-clause-new c =
    ap not (sym (answers cap_total cap_exact _ _ c.self.invariant.rises c.self.view_is _ c.as_slice.ensures c.args.cap (Err c.in-Err.place) c.in-Err.ensures.bound c.in-Err.ensures.position))

on_err : {A E P : Type 0} (r : Result A E) → P → OnErr r P
on_err (Ok x) p = tt
on_err (Err e) p = p

pub returns-in_err-make_room-in-Err-2-clause-absent : goal.returns-in_err-make_room-in-Err-2-clause-absent
returns-in_err-make_room-in-Err-2-clause-absent c =
    on_err _ (answers cap_total cap_exact _ _ c.self.invariant.rises c.self.view_is _ c.as_slice.ensures c.args.cap (Err c.in-Err.place) c.in-Err.ensures.bound c.in-Err.ensures.position)

pub returns-in_err-make_room-in-Err-clause-absent : goal.returns-in_err-make_room-in-Err-clause-absent
returns-in_err-make_room-in-Err-clause-absent c =
    on_err _ (answers cap_total cap_exact _ _ c.self.invariant.rises c.self.view_is _ c.as_slice.ensures c.args.cap (Err c.in-Err.place) c.in-Err.ensures.bound c.in-Err.ensures.position)
