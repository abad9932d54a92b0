use Rattle.std.proofs.Common.{◌≡◌, ◌≤◌, length, take}
use Rattle.std.specs.List.{filter}
use Rattle.fl_opset.specs.ByNode.{all_ops}
use Rattle.fl_opset.specs.Windows.{is_lacking}
use Rattle.fl_opset.proofs.walks.lacking_of.Given as goal

-- the first of what is lacking of the nodes so far
abbrev pub invariant-loop-it : goal.invariant-loop-it
invariant-loop-it l = record {
  few : length l.lacking.items ≤ l.most;
  taken : l.lacking.items ≡ take l.most (filter (is_lacking l.window) (all_ops (take l.it-index l.it-items)));
}
