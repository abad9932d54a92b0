use Rattle.std.proofs.Common.{[], ◌∷◌, sym, subst, List, arith}
use Rattle.std.proofs.lemmas.List.{nil_from_length}
use Rattle.fl_dealing.specs.declared.item.Item.{Item}
use Rattle.fl_dealing.specs.parts.Dealing.{Deals}
use Rattle.fl_dealing.proofs.Deals.{deals_none, deals_first}
use Rattle.fl_dealing.proofs.dealing.Dealt.add_all.Goals as goal

pub loop-item-preserved : goal.loop-item-preserved
loop-item-preserved c =
    let added : Deals c.loop-item.self (c.in-Some.item ∷ []) c.add.new.self = c.in_ok-add.ensures in
    record {
      ready = (added.within, omega (arith, added.count, c.loop-item.invariant.ready.1));
      deals = λ end rest. c.loop-item.invariant.deals end
          (subst (λ (items : List Item). Deals c.loop-item.self items end)
          (sym c.in-Some.ensures.steps.0)
          (deals_first c.loop-item.self c.add.new.self end c.in-Some.item _ added rest));
    }

pub returns : goal.returns
returns c =
    c.loop-item.invariant.deals c.loop-item.self
    (subst (λ (items : List Item). Deals c.loop-item.self items c.loop-item.self)
    (sym (nil_from_length c.loop-item.item-iterator.rest.items
    (omega (arith, c.loop-item.item-iterator.rest.ok, c.in-None.ensures.steps))))
    (deals_none c.loop-item.self c.loop-item.invariant.ready.0))
