use Rattle.std.proofs.Common.{◌≡◌, ◌++◌, take}
use Rattle.fl_opset.specs.ByNode.{all_ops}
use Rattle.fl_opset.proofs.walks.append_to.Given as goal

-- those of the nodes so far stand at the end
abbrev pub invariant-loop-it : goal.invariant-loop-it
invariant-loop-it l = l.list.items ≡ l.initial.list.items ++ all_ops (take l.it-index l.nodes)
