use Rattle.std.proofs.Common.{◌≡◌, ℕ, [], Option, None, Some, IfNone, sym, ap, subst, ◌∙◌, rules, tests}
use Rattle.std.proofs.lemmas.Iterator.{first_from_find}
use Rattle.std.proofs.lemmas.Iterator.Adapters.{YieldsList-from_rev_slice}
use Rattle.fl_opset.specs.ByNode.{all_ops}
use Rattle.fl_opset.proofs.LastNode.{HasSome, HasNone, none_last, none_above, some_last}
use Rattle.fl_opset.proofs.node_ops.last_node.Goals as goal

pub returns-in_err-last-clause-none : goal.returns-in_err-last-clause-none
returns-in_err-last-clause-none c =
    let first = first_from_find c.find.new.self _ None HasSome HasNone c.in_err-last.ensures.ran
    (YieldsList-from_rev_slice c.args.nodes.now (ap (λ i. i.rest.now) c.rev.ensures.source ∙ c.iter.ensures.rest)) (λ x q k. search (rules, tests)) (λ x q k. search (rules, tests)) in
    subst (λ (r : Option ℕ). IfNone r (all_ops c.args.nodes.now ≡ [])) (sym c.from_residual.ensures) (none_last c.args.nodes.now first)

pub returns-clause-some : goal.returns-clause-some
returns-clause-some c =
    let first = first_from_find c.find.new.self _ (Some c.in_ok-last.last) HasSome HasNone c.in_ok-last.ensures.ran
    (YieldsList-from_rev_slice c.args.nodes.now (ap (λ i. i.rest.now) c.rev.ensures.source ∙ c.iter.ensures.rest)) (λ x q k. search (rules, tests)) (λ x q k. search (rules, tests)) in
    (none_above c.args.nodes.now c.requires c.in_ok-last.last.now first.1 first.2 first.3 first.4, some_last c.args.nodes.now c.requires c.in_ok-last.last.now first.1 first.2 first.3 first.4 first.0)
