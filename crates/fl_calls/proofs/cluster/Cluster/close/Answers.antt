use Rattle.std.proofs.Common.{◌≡◌, ◌∙◌, inl, inr, sym, ap, subst, Some}
use Rattle.std.specs.FinMap as map
use Rattle.fl_calls.specs.Closing.{IsLeftAt}
use Rattle.fl_calls.proofs.Closings.{left_by, still_there}
use Rattle.fl_calls.proofs.cluster.Cluster.close.Goals as goal

pub loop-number-init : goal.loop-number-init
loop-number-init g c = record {
  left = λ number n at. subst (λ s. map.get s.world.nodes number ≡ Some n) c.self.view_is
      (ap (λ m. map.get m number) (sym c.into_keepers-keepers.ensures) ∙ at);
  found = λ number k h. inl (subst (λ s. g.M.MakesKeepers.making.finds s.maker number k)
      c.self.view_is h);
}

pub loop-number-preserved : goal.loop-number-preserved
loop-number-preserved g c =
    let gives = c.in-Some.ensures.some in
    record {
      left = λ number n at. c.loop-number.invariant.left number n
          (still_there c.loop-number.keepers _ c.in-Some.number number n gives.left at);
      found = λ number k h. elim (c.close.ensures number k h) [
        | inl old ↦ c.loop-number.invariant.found number k old
        | inr new ↦ inr (subst (λ n. IsLeftAt g.M.K.Keeper.custody c.args.self n k) (sym new.0)
            (left_by g.M.K.Keeper.custody c.args.self k c.loop-number.keepers _ c.in-Some.number
            c.in-Some.keeper gives c.loop-number.invariant.left new.1))
      ];
    }

pub returns : goal.returns
returns g c = c.loop-number.invariant.found
