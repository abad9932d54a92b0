use Rattle.std.proofs.Common.{◌≡◌, ◌≢◌, Bool, true, false, refl, sym, ap, subst, Option, IfSome, IfNone}
use Rattle.std.specs.Bool.{then_some}
use Rattle.fl_labels.specs.declared.name.Name.{Name}
use Rattle.fl_labels.specs.SetBy.{In}
use Rattle.fl_ops.specs.declared.op.Op.{Op}
use Rattle.fl_opset.proofs.OfNode.{each_of_node}
use Rattle.fl_opset.proofs.set.OpSet.clash.Goals as goal

some_given : (P : Name → Type 0) (b : Bool) (n : Name) (r : Option Name) → r ≡ then_some b n → (b ≡ true → P n) → IfSome r P
some_given P true n r e h = subst (λ r. IfSome r P) (sym e) (h refl)
some_given P false n r e h = subst (λ r. IfSome r P) (sym e) tt

none_given : (Q : Type 0) (b : Bool) (n : Name) (r : Option Name) → r ≡ then_some b n → (b ≡ false → Q) → IfNone r Q
none_given Q true n r e h = subst (λ r. IfNone r Q) (sym e) tt
none_given Q false n r e h = subst (λ r. IfNone r Q) (sym e) (h refl)

pub returns-clause-some : goal.returns-clause-some
returns-clause-some c =
    some_given (λ name. (name ≡ c.args.op.now.name) × ((other : Op) × In c.args.self.now other × (other.name ≡ name) × (other ≢ c.args.op.now))) _ _ _ c.then_some.ensures (λ is.
    let w = c.has_other.ensures.some is in
    (refl, (w.1, (c.of_node.ensures.only w.1 (w.0, w.2, w.3)).0, w.4.0, w.4.1)))

pub returns-clause-none : goal.returns-clause-none
returns-clause-none c =
    none_given _ _ _ _ c.then_some.ensures (λ is other in_self same.
    each_of_node c.args.self.now c.args.op.now.name.node c.of_node.result.now c.of_node.ensures.only c.of_node.ensures.all
    (λ (other : Op). other.name ≡ c.args.op.now.name → other ≡ c.args.op.now) (c.has_other.ensures.none is) other in_self (ap (λ (n : Name). n.node) same) same)
