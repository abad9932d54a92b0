use Rattle.std.proofs.Common.{sym, ap, ◌∙◌}
use Rattle.fl_labels.specs.CapOrder.{cap_total, cap_exact}
use Rattle.fl_labels.specs.SetBy.{of_list}
use Rattle.fl_labels.proofs.Unions.{holds_union, union_within}
use Rattle.fl_labels.proofs.UsesKept.{moved, apart_as, uses_joined}
use Rattle.fl_labels.proofs.cap_set.CapSet.insert_all.Goals as goal

pub returns-then-has_each-clause-ok : goal.returns-then-has_each-clause-ok
returns-then-has_each-clause-ok c = union_within cap_total cap_exact _ _ (c.has_each.ensures.holds c.if-has_each.true)

pub returns-clause-ok : goal.returns-clause-ok
returns-clause-ok c = holds_union cap_total cap_exact _ _ _ _ _ (ap of_list c.in_ok-make_room-2.ensures.items ∙ c.self.view_is) (ap of_list c.as_slice-caps.ensures ∙ c.other.view_is) c.put_all.ensures.members

pub invariant_of-self-2 : goal.invariant_of-self-2
invariant_of-self-2 c =
    let view = holds_union cap_total cap_exact _ _ _ _ _ (ap of_list c.in_ok-make_room-2.ensures.items ∙ c.self.view_is) (ap of_list c.as_slice-caps.ensures ∙ c.other.view_is) c.put_all.ensures.members in
    apart_as _ _ _ c.put_all.ensures.rises view
    (uses_joined _ _ _ _ _ c.put_all-2.ensures.rises c.put_all-2.ensures.members
    (moved _ _ _ _ (sym c.self.view_is) c.in_ok-make_room.ensures.items c.self.invariant.apart)
    (moved _ _ _ _ (sym c.other.view_is) c.as_slice-uses.ensures c.other.invariant.apart))
    c.put_all.ensures.fits c.put_all-2.ensures.fits
