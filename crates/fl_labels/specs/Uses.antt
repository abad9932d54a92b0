-- The uses of groups among capabilities.
use Rattle.std.specs.Prelude.{◌≡◌, ◌&&◌, List}
use Rattle.std.specs.List.Sorted.{IsStrictlySortedBy}
use Rattle.fl_labels.specs.declared.cap.Cap.{Cap}
use Rattle.fl_labels.specs.Cap.{cap_cmp, is_use}
use Rattle.fl_labels.specs.SetBy.{SetBy, contains, of_list}

-- these rise, and are the uses of groups among the members
pub record AreUsesOf (s : SetBy cap_cmp) (uses : List Cap) : Type 0 where
  pub rise : IsStrictlySortedBy cap_cmp uses
  pub are : (c : Cap) → contains (of_list {R = cap_cmp} uses) c ≡ (is_use c && contains s c)
