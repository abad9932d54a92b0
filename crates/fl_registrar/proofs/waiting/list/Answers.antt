use Rattle.std.proofs.Common.{ap, subst, sym, ◌∙◌}
use Rattle.fl_system.specs.State.{NodeState, ops_of}
use Rattle.fl_registrar.specs.parts.Stages.{IsAt}
use Rattle.fl_registrar.proofs.Nodes.{not_published}
use Rattle.fl_registrar.proofs.waiting.list.Goals as goal

pub returns-then-is_err-clause-node : goal.returns-then-is_err-clause-node
returns-then-is_err-clause-node g c =
    let same = not_published c.publish.result (sym c.is_err.ensures.value ∙ c.if-is_err.true)
    c.publish.ensures.publishes in
    record {
      number = ap (λ (n : NodeState). n.number) same;
      boot = ap (λ (n : NodeState). n.boot) same;
      saved = ap (λ (n : NodeState). n.saved) same;
      keeper = c.publish.ensures.keeper;
    }

pub returns-then-is_err-clause-at : goal.returns-then-is_err-clause-at
returns-then-is_err-clause-at g c =
    let same = not_published c.publish.result (sym c.is_err.ensures.value ∙ c.if-is_err.true)
    c.publish.ensures.publishes in
    λ list. subst (λ (n : NodeState). IsAt c.args.waiting.now.stage n list
    (ops_of c.args.waiting.now.batch)) (sym same)
