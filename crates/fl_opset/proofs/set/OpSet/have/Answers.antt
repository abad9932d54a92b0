use Rattle.std.proofs.Common.{List, [], subst}
use Rattle.fl_labels.specs.SetBy.{In}
use Rattle.fl_opset.specs.declared.node_ops.NodeOps.{NodeOps}
use Rattle.fl_opset.specs.ByNode.{all_ops}
use Rattle.fl_opset.specs.Windows.{AreWindows, IsCutInto}
use Rattle.fl_opset.specs.parts.Kept.{AddNames}
use Rattle.fl_opset.proofs.Kept.{kept_spans, found_spans}
use Rattle.fl_opset.proofs.Whole.{windows_found, if_ok_then}
use Rattle.fl_opset.proofs.set.OpSet.have.Goals as goal

pub returns-then-self : goal.returns-then-self
returns-then-self c =
    let spans = kept_spans _ _ _ c.args.self.now c.self.invariant.kept c.self.view_is c.if-self.true in
    if_ok_then (λ ws. IsCutInto c.deref.result.now ws.items) (λ ws. AreWindows (In c.args.self.now) ws.items)
    (λ ws. windows_found (In c.args.self.now) _ _ ws.items spans c.deref.ensures.value) c.windows_of.result c.windows_of.ensures

pub returns : goal.returns
returns c =
    let added = subst (λ (ns : List NodeOps). AddNames (all_ops ns) [] c.in_ok-spans.spans.items) c.deref-2.ensures.value c.in_ok-spans.ensures in
    let spans = found_spans _ c.args.self.now _ c.self.view_is added in
    if_ok_then (λ ws. IsCutInto c.deref-3.result.now ws.items) (λ ws. AreWindows (In c.args.self.now) ws.items)
    (λ ws. windows_found (In c.args.self.now) _ _ ws.items spans c.deref-3.ensures.value) c.windows_of-2.result c.windows_of-2.ensures
