use Rattle.fl_dealing.specs.declared.dealing.Dealt.{Dealt}
use Rattle.fl_dealing.specs.parts.Dealing.{IsOpen, Deals}
use Rattle.fl_dealing.proofs.dealing.Dealt.add_all.Given as goal

abbrev pub invariant-loop-item : goal.invariant-loop-item
invariant-loop-item l = record {
  ready : IsOpen l.self;
  deals : (end : Dealt) → Deals l.self l.item-iterator.rest.items end
      → Deals l.fn.self l.fn.items.items end;
}
