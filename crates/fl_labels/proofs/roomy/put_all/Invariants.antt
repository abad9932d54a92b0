use Rattle.std.proofs.Common.{◌+◌, ◌-◌, ◌≤◌, length, take}
use Rattle.std.specs.Vec.{vec_len, vec_capacity}
use Rattle.std.specs.List.Sorted.{IsStrictlySortedBy}
use Rattle.fl_labels.specs.Cap.{cap_cmp}
use Rattle.fl_labels.specs.SetBy.{of_list}
use Rattle.fl_labels.specs.parts.Deque.{items, IsDeque}
use Rattle.fl_labels.proofs.Unions.{Holds}
use Rattle.fl_labels.proofs.roomy.put_all.Given as goal

-- those so far are in, and there is room for the rest
abbrev pub invariant-loop-cap : goal.invariant-loop-cap
invariant-loop-cap l = record {
  fits : IsDeque l.caps;
  rises : IsStrictlySortedBy cap_cmp (items l.caps);
  room : vec_len l.caps.all + (length l.others - l.cap-index) ≤ vec_capacity l.caps.all;
  holds : Holds (of_list {R = cap_cmp} (items l.fn.caps)) (take l.cap-index l.others) (of_list {R = cap_cmp} (items l.caps));
}
