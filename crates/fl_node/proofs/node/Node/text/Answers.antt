use Rattle.std.proofs.Common.{◌≡◌, ◌∙◌, sym, ap, subst}
use Rattle.fl_labels.specs.SetBy as set
use Rattle.fl_labels.specs.SetBy.{SetBy}
use Rattle.fl_ops.specs.OpOrder.{op_cmp}
use Rattle.fl_opset.specs.RegistryText.{registry_text}
use Rattle.fl_opset.specs.Without.{without}
use Rattle.fl_sink.specs.Sink.{Writes}
use Rattle.fl_node.proofs.Sounds.{published_is}
use Rattle.fl_node.proofs.node.Node.text.Goals as goal

pub returns-in-Ok-clause-ok : goal.returns-in-Ok-clause-ok
returns-in-Ok-clause-ok g c =
    let W = g.W.Write.contents in
    let same : without c.self.inside.saved c.due_ops.result.now ≡ set.of_list c.self.inside.listing.published =
    ap (without c.self.inside.saved) c.due_ops.ensures ∙ sym (published_is c.self.inside.state c.self.inside.listing.published c.self.inside.saved c.in-Ok.ensures.ok c.self.invariant.listed) in
    rw (← c.self.view_is) (subst (λ (ops : SetBy op_cmp). Writes (W c.args.output.now) (W c.text_but.new.output) (registry_text ops) c.text_but.result)
    same c.text_but.ensures.writes)
