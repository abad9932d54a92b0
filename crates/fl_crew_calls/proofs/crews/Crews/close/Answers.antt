use Rattle.std.proofs.Common.{◌≡◌, ◌∙◌, Some, ap, inl, inr, subst, sym}
use Rattle.std.specs.FinMap as map
use Rattle.fl_crew_calls.proofs.Maps.{before_removal, held, made_by}
use Rattle.fl_crew_calls.proofs.crews.Crews.close.Goals as goal

pub loop-number-init : goal.loop-number-init
loop-number-init g c = record {
  left = λ number place at.
      sym (held _ _ c.self.inside.all.entries _ c.args.self c.self.view_is number) ∙ at;
  found = λ number k finds. inl (subst (λ maker. g.M.MakesKeepers.making.finds maker number k)
      (made_by _ _ c.self.inside.all.entries _ c.args.self c.self.view_is) finds);
}

pub loop-number-preserved-in-Some-place : goal.loop-number-preserved-in-Some-place
loop-number-preserved-in-Some-place g c = record {
  left = λ number place at. c.loop-number.invariant.left number place
      (before_removal _ _ _ place (c.in-Some.ensures.updates.0 number) at);
  found = λ number k finds. elim (c.close.ensures number k finds) [
    | inl old ↦ c.loop-number.invariant.found number k old
    | inr new ↦ inr (record {
      crew = c.in-Some-place.manned;
      there = subst (λ n. map.get c.args.self.crews n ≡ Some (Some c.in-Some-place.manned))
          (sym new.0) (c.loop-number.invariant.left c.in-Some.number _
          (c.in-Some.ensures.value ∙ ap Some c.in-Some-place.is));
      held = subst (λ keeper. g.M.K.Keeper.custody.is_honest keeper
          → g.M.K.Keeper.custody.may_hold keeper k) c.into_keeper.ensures new.1;
    })
  ];
}

pub loop-number-preserved : goal.loop-number-preserved
loop-number-preserved g c = record {
  left = λ number place at. c.loop-number.invariant.left number place
      (before_removal _ _ _ place (c.in-Some.ensures.updates.0 number) at);
  found = c.loop-number.invariant.found;
}
