use Rattle.std.proofs.Common.{ℕ, List, ap, subst}
use Rattle.fl_sink.specs.Sink.{Puts}
use Rattle.fl_opset.specs.ByNode.{all_ops}
use Rattle.fl_opset.proofs.Written.{left_text}
use Rattle.fl_opset.proofs.set.OpSet.write_text_but.Goals as goal

pub returns-clause-puts : goal.returns-clause-puts
returns-clause-puts g c =
    let W = g.W.Writer.contents in
    subst (λ (text : List ℕ). Puts (W c.args.output.now) (W c.write_lines_but.new.output) c.args.sink.now text c.write_lines_but.new.sink c.write_lines_but.result)
    (left_text _ _ c.args.those.now _ c.self.invariant.kept.rises c.self.view_is (ap (λ ns. all_ops ns) c.deref.ensures.value)) c.write_lines_but.ensures.puts
