use Rattle.std.proofs.Common.{◌∙◌, subst, All, arith}
use Rattle.fl_desks.specs.parts.Fronts.{IsFront}
use Rattle.fl_desks.proofs.Views.{views_length}
use Rattle.fl_desks.proofs.listing.Listing.new.Goals as goal

pub invariant_of-result : goal.invariant_of-result
invariant_of-result c =
    record {
      few = omega (arith, c.in_ok-desks.ensures.count, c.ranges.desks.fits);
      fronts = subst (λ l. All (IsFront l) c.in_ok-desks.desks.items) c.deref.ensures.value c.in_ok-desks.ensures.fronts;
    }

pub returns-clause-desks : goal.returns-clause-desks
returns-clause-desks c = views_length c.in_ok-desks.desks.items ∙ c.in_ok-desks.ensures.count
