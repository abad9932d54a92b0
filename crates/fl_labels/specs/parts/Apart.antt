-- What a set of capabilities keeps.
use Rattle.std.specs.List.Sorted.{IsStrictlySortedBy}
use Rattle.fl_labels.specs.declared.deque.CapDeque.{CapDeque}
use Rattle.fl_labels.specs.Cap.{cap_cmp}
use Rattle.fl_labels.specs.SetBy.{of_list}
use Rattle.fl_labels.specs.Uses.{AreUsesOf}
use Rattle.fl_labels.specs.parts.Deque.{items, IsDeque}

-- the capabilities rise, and their uses are kept once more
pub record AreApart (caps uses : CapDeque) : Type 0 where
  pub rises : IsStrictlySortedBy cap_cmp (items caps)
  pub apart : AreUsesOf (of_list (items caps)) (items uses)
  pub fits : IsDeque caps
  pub uses_fit : IsDeque uses
