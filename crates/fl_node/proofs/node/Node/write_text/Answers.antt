use Rattle.std.proofs.Common.{◌≡◌, ◌∙◌, sym, ap, subst}
use Rattle.fl_labels.specs.SetBy as set
use Rattle.fl_labels.specs.SetBy.{SetBy}
use Rattle.fl_ops.specs.OpOrder.{op_cmp}
use Rattle.fl_opset.specs.RegistryText.{registry_text}
use Rattle.fl_opset.specs.Without.{without}
use Rattle.fl_sink.specs.Sink.{Puts}
use Rattle.fl_node.proofs.Sounds.{published_is}
use Rattle.fl_node.proofs.node.Node.write_text.Goals as goal

pub returns-clause-puts : goal.returns-clause-puts
returns-clause-puts g c =
    let W = g.W.Writer.contents in
    let running = rw (← c.self.view_is) at c.requires in
    let same : without c.self.inside.saved c.due_ops.result.now ≡ set.of_list c.self.inside.listing.published =
    ap (without c.self.inside.saved) c.due_ops.ensures ∙ sym (published_is c.self.inside.state c.self.inside.listing.published c.self.inside.saved running c.self.invariant.listed) in
    rw (← c.self.view_is) (subst (λ (ops : SetBy op_cmp). Puts (W c.args.output.now) (W c.write_text_but.new.output) c.args.sink.now (registry_text ops) c.write_text_but.new.sink c.write_text_but.result)
    same c.write_text_but.ensures.puts)
