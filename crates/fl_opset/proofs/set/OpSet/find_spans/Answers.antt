use Rattle.std.proofs.Common.{List, [], subst, true}
use Rattle.fl_opset.specs.declared.node_ops.NodeOps.{NodeOps}
use Rattle.fl_opset.specs.ByNode.{all_ops}
use Rattle.fl_opset.specs.parts.Kept.{AddNames}
use Rattle.fl_opset.proofs.Kept.{kept_found}
use Rattle.fl_opset.proofs.set.OpSet.find_spans.Goals as goal

pub invariant_of-self : goal.invariant_of-self
invariant_of-self c = record {
  by_node = c.self.invariant.by_node;
  counted = c.self.invariant.counted;
  kept = kept_found (all_ops c.self.inside.nodes.items) c.in-Ok.spans.items true c.self.invariant.kept.rises
      (subst (λ (ns : List NodeOps). AddNames (all_ops ns) [] c.in-Ok.spans.items) c.deref.ensures.value c.in-Ok.ensures);
}
