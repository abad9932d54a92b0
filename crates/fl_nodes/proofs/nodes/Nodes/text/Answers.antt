use Rattle.std.proofs.Common.{◌≡◌, ◌∙◌, sym, subst, refl, ℕ, List, Option, Some, None, Result, Ok, Err}
use Rattle.std.specs.Prelude.{IfOk, IfErr, OnErr}
use Rattle.fl_labels.specs.SetBy as set
use Rattle.fl_opset.specs.RegistryText.{registry_text}
use Rattle.fl_sink.specs.Sink.{Writes}
use Rattle.fl_sink.specs.declared.sink.WriteFault.{WriteFault}
use Rattle.fl_system.specs.declared.answer.Fault.{Fault}
use Rattle.fl_system.specs.State.{NodeState}
use Rattle.fl_system.specs.Waiting.{IsRunning, NotRunning}
use Rattle.fl_node.specs.Over.{NodeOver}
use Rattle.fl_nodes.specs.Texts.{TextOf, TextAt}
use Rattle.fl_nodes.proofs.Entries.{held}
use Rattle.fl_nodes.proofs.nodes.Nodes.text.Goals as goal

not_there : {K : Type 0} (old : Option (List ℕ)) (o : Option (NodeOver K)) → o ≡ None → TextAt old old o None
not_there old o none = subst (λ o. TextAt old old o None) (sym none) refl

of_node : (old new : Option (List ℕ)) (n : NodeState) (result : Result (Result (Unit {0}) WriteFault) Fault)
    → IfOk result (λ written. IsRunning n.state)
    → IfOk result (λ written. Writes old new (registry_text (set.of_list n.published)) written)
    → IfErr result (λ fault. NotRunning n.state fault) → OnErr result (new ≡ old) → TextOf old new n result
of_node old new n (Ok written) running ok err nothing = (running, ok)
of_node old new n (Err fault) running ok err nothing = (err, nothing)

there : {K : Type 0} (old new : Option (List ℕ)) (o : Option (NodeOver K)) (n : NodeOver K) (result : Result (Result (Unit {0}) WriteFault) Fault)
    → o ≡ Some n → TextOf old new n.node result → TextAt old new o (Some result)
there old new o n result at text = subst (λ o. TextAt old new o (Some result)) (sym at) text

pub returns-in_err-node : goal.returns-in_err-node
returns-in_err-node g c = rw c.from_residual.ensures (not_there _ _
    (sym (held c.self.inside.all.entries c.self.inside.all.entries c.self.inside.sent.items c.self.inside.audit.items c.args.self.now c.self.view_is c.args.number) ∙ sym c.in_err-node.ensures.value))

pub returns : goal.returns
returns g c =
    there _ _ _ c.in_ok-node.node.now _
    (sym (held c.self.inside.all.entries c.self.inside.all.entries c.self.inside.sent.items c.self.inside.audit.items c.args.self.now c.self.view_is c.args.number) ∙ sym c.in_ok-node.ensures.value)
    (of_node _ _ c.in_ok-node.node.now.node _ c.text.ensures.running c.text.ensures.ok c.text.ensures.err c.text.ensures.nothing)
