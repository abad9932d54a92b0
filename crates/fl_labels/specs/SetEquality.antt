-- Sets are equal where their members are, one by one.
use Rattle.std.specs.declared.cmp.Ordering.{Ordering}
use Rattle.std.specs.Cmp.{IsTotalOrder, IsEquivalence, eq_by_cmp_equiv, on_total}
use Rattle.std.specs.Cmp.Lexicographic.{slice_cmp, lists_total}
use Rattle.std.specs.Ordering.{eq_by_cmp}
use Rattle.fl_labels.specs.SetBy.{SetBy, members}

-- by their members, in order
abbrev pub set_cmp : {K : Type 0} (R : K → K → Ordering) → SetBy R → SetBy R → Ordering
set_cmp R s t = slice_cmp R (members s) (members t)

pub sets_equiv : {K : Type 0} {R : K → K → Ordering} → IsTotalOrder R → IsEquivalence (eq_by_cmp (set_cmp R))
sets_equiv total = eq_by_cmp_equiv (on_total members (lists_total total))
