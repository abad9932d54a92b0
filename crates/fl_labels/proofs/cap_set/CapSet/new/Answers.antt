use Rattle.std.proofs.Common.{sym, ap, subst}
use Rattle.std.specs.List.Sorted.{IsStrictlySortedBy}
use Rattle.fl_labels.specs.Cap.{cap_cmp}
use Rattle.fl_labels.specs.SetBy.{of_list}
use Rattle.fl_labels.proofs.UsesKept.{no_uses}
use Rattle.fl_labels.proofs.cap_set.CapSet.new.Goals as goal

pub invariant_of-result : goal.invariant_of-result
unfolding IsStrictlySortedBy
invariant_of-result c = record {
  rises = subst (IsStrictlySortedBy cap_cmp) (sym c.new.ensures.items) tt;
  apart = no_uses _ _ (ap of_list c.new.ensures.items) c.new-2.ensures.items;
  fits = c.new.ensures.fits;
  uses_fit = c.new-2.ensures.fits;
}
