-- Items in order, each once.
use Rattle.std.specs.Prelude.{◌≡◌, List}
use Rattle.std.specs.declared.cmp.Ordering.{Ordering}
use Rattle.std.specs.List.Sorted.{IsStrictlySortedBy}
use Rattle.fl_labels.specs.SetBy.{contains, of_list}

-- ys rise, and have the members of xs
pub record IsArranged {K : Type 0} (R : K → K → Ordering) (xs ys : List K) : Type 0 where
  pub rises : IsStrictlySortedBy R ys
  pub same : (q : K) → contains (of_list {R = R} ys) q ≡ contains (of_list {R = R} xs) q
