use Rattle.std.proofs.Common.{refl, sym, ◌∙◌, Result, Ok, Err, OnOk}
use Rattle.fl_labels.specs.CapOrder.{cap_total, cap_exact}
use Rattle.fl_labels.specs.laws.SortedVec.{answers, removed, kept_remove}
use Rattle.fl_labels.proofs.PutBack.{restored}
use Rattle.fl_labels.proofs.UsesKept.{moved, apart_as, put_back_again, use_there}
use Rattle.fl_labels.proofs.cap_set.CapSet.remove_if.Goals as goal

on_ok : {A E P : Type 0} (r : Result A E) → P → OnOk r P
on_ok (Ok x) p = p
on_ok (Err e) p = tt

pub returns-in_default-clause-ok : goal.returns-in_default-clause-ok
returns-in_default-clause-ok g c =
    on_ok _ (kept_remove cap_total cap_exact _ _ c.self.invariant.rises c.self.view_is _ c.as_slice.ensures c.args.cap _ c.in_default.ensures.bound c.in_default.ensures.position)

pub returns-in_default-clause-judged : goal.returns-in_default-clause-judged
returns-in_default-clause-judged g c = record {
  asked = _;
  asks = refl;
  shown = _;
  shows = kept_remove cap_total cap_exact _ _ c.self.invariant.rises c.self.view_is _ c.as_slice.ensures c.args.cap _ c.in_default.ensures.bound c.in_default.ensures.position;
  left = _;
  met = c.judge.ensures;
  leaves = refl;
}

pub invariant_of-self : goal.invariant_of-self
invariant_of-self g c =
    let out = removed cap_total cap_exact _ _ c.self.invariant.rises c.self.view_is _ c.as_slice.ensures c.args.cap _ _ c.in-Ok.ensures.bound c.in-Ok.ensures.position c.remove.ensures.items in
    apart_as _ _ _ out.rises out.view (c.take_use.ensures.uses _ (moved _ _ _ _ (sym c.self.view_is) refl c.self.invariant.apart)) c.remove.ensures.fits c.take_use.ensures.fits

pub invariant_of-self-in-Err : goal.invariant_of-self-in-Err
invariant_of-self-in-Err g c =
    let back = restored cap_exact _ _ c.self.invariant.rises c.self.view_is _ c.as_slice.ensures c.args.cap _ _ _ c.in-Ok.ensures.bound c.in-Ok.ensures.position c.remove.ensures.items c.put.ensures.items in
    let there = answers cap_total cap_exact _ _ c.self.invariant.rises c.self.view_is _ c.as_slice.ensures c.args.cap (Ok c.in-Ok.place) c.in-Ok.ensures.bound c.in-Ok.ensures.position in
    apart_as _ _ _ back.rises (back.view ∙ put_back_again _ c.args.cap there)
    (c.put_use.ensures.uses _ (c.take_use.ensures.uses _ (moved _ _ _ _ (sym c.self.view_is) refl c.self.invariant.apart)))
    c.put.ensures.fits c.put_use.ensures.fits

pub put_use-requires-clause-room : goal.put_use-requires-clause-room
put_use-requires-clause-room g c = λ kind.
    let there = answers cap_total cap_exact _ _ c.self.invariant.rises c.self.view_is _ c.as_slice.ensures c.args.cap (Ok c.in-Ok.place) c.in-Ok.ensures.bound c.in-Ok.ensures.position in
    c.take_use.ensures.room (use_there _ _ c.args.cap (moved _ _ _ _ (sym c.self.view_is) refl c.self.invariant.apart) there kind)

pub returns-in-Err-clause-err : goal.returns-in-Err-clause-err
returns-in-Err-clause-err g c =
    (restored cap_exact _ _ c.self.invariant.rises c.self.view_is _ c.as_slice.ensures c.args.cap _ _ _ c.in-Ok.ensures.bound c.in-Ok.ensures.position c.remove.ensures.items c.put.ensures.items).view

pub returns-in-Err-clause-judged : goal.returns-in-Err-clause-judged
returns-in-Err-clause-judged g c = record {
  asked = _;
  asks = refl;
  shown = _;
  shows = (removed cap_total cap_exact _ _ c.self.invariant.rises c.self.view_is _ c.as_slice.ensures c.args.cap _ _ c.in-Ok.ensures.bound c.in-Ok.ensures.position c.remove.ensures.items).view;
  left = _;
  met = c.in-Err.ensures;
  leaves = refl;
}

pub invariant_of-self-in_default-judge : goal.invariant_of-self-in_default-judge
invariant_of-self-in_default-judge g c =
    let out = removed cap_total cap_exact _ _ c.self.invariant.rises c.self.view_is _ c.as_slice.ensures c.args.cap _ _ c.in-Ok.ensures.bound c.in-Ok.ensures.position c.remove.ensures.items in
    apart_as _ _ _ out.rises out.view (c.take_use.ensures.uses _ (moved _ _ _ _ (sym c.self.view_is) refl c.self.invariant.apart)) c.remove.ensures.fits c.take_use.ensures.fits

pub returns-clause-ok : goal.returns-clause-ok
returns-clause-ok g c =
    (removed cap_total cap_exact _ _ c.self.invariant.rises c.self.view_is _ c.as_slice.ensures c.args.cap _ _ c.in-Ok.ensures.bound c.in-Ok.ensures.position c.remove.ensures.items).view

pub returns-clause-judged : goal.returns-clause-judged
returns-clause-judged g c = record {
  asked = _;
  asks = refl;
  shown = _;
  shows = (removed cap_total cap_exact _ _ c.self.invariant.rises c.self.view_is _ c.as_slice.ensures c.args.cap _ _ c.in-Ok.ensures.bound c.in-Ok.ensures.position c.remove.ensures.items).view;
  left = _;
  met = c.in_default-judge.ensures;
  leaves = refl;
}
