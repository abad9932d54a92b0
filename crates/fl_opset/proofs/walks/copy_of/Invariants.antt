use Rattle.std.proofs.Common.{take}
use Rattle.std.specs.List.{AllZip}
use Rattle.fl_opset.proofs.Entries.{IsCopy}
use Rattle.fl_opset.proofs.walks.copy_of.Given as goal

-- the entries so far were copied
abbrev pub invariant-loop-it : goal.invariant-loop-it
invariant-loop-it l = AllZip IsCopy (take l.it-index l.nodes) l.made.items
