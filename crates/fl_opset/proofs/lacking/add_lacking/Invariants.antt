use Rattle.std.proofs.Common.{◌≡◌, ◌≤◌, ◌++◌, length, take, drop}
use Rattle.std.specs.List.{filter}
use Rattle.std.specs.List.Sorted.{IsNonDecreasingBy}
use Rattle.fl_opset.specs.Rank.{op_rank}
use Rattle.fl_opset.specs.Windows.{is_lacking}
use Rattle.fl_opset.proofs.Lacks.{outside}
use Rattle.fl_opset.proofs.lacking.add_lacking.Given as goal

-- what was taken, with what no span that is left has of the rest, of which so many are wanted
abbrev pub invariant-loop-span : goal.invariant-loop-span
invariant-loop-span l = record {
  rises : IsNonDecreasingBy op_rank l.rest;
  few : length l.lacking.items ≤ l.most;
  grown : length l.fn.lacking.items ≤ length l.lacking.items;
  taken : take l.most (l.lacking.items ++ filter (outside (drop l.span-index l.span-items)) l.rest) ≡ take l.most (l.fn.lacking.items ++ filter (is_lacking l.window) l.fn.ops);
}
