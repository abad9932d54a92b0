use Rattle.std.proofs.Common.{◌-◌, length, refl, sym, subst, arith}
use Rattle.std.specs.List.{Contains}
use Rattle.std.proofs.lemmas.List.Elements.{Contains-get_or}
use Rattle.fl_opset.proofs.OfNode.{last_number}
use Rattle.fl_opset.proofs.set.OpSet.last_of.Goals as goal

pub returns-in-Some-clause-upper : goal.returns-in-Some-clause-upper
returns-in-Some-clause-upper c =
    last_number c.args.self.now c.args.node c.of_node.result.now c.of_node.ensures.only c.of_node.ensures.all c.of_node.ensures.rise c.in-Some.last.now c.in-Some.ensures.item.3.0 c.in-Some.ensures.item.3.1

pub returns-in-Some-clause-reached : goal.returns-in-Some-clause-reached
returns-in-Some-clause-reached c = λ some.
    let last = c.in-Some.last.now in
    let has = c.of_node.ensures.only last (subst (Contains c.of_node.result.now) (sym (c.in-Some.ensures.item.3.1 last)) (Contains-get_or c.of_node.result.now (length c.of_node.result.now - 1) last (omega (arith, c.in-Some.ensures.item.3.0)))) in
    (last, has.0, has.1, refl)
