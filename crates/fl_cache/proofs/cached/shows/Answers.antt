use Rattle.std.specs.Prelude.{IfSome}
use Rattle.std.proofs.Common.{subst}
use Rattle.fl_labels.specs.SetBy.{In}
use Rattle.fl_closure.specs.Witness.{IsWitness}
use Rattle.fl_closure.specs.laws.Witnesses.{shown}
use Rattle.fl_cache.proofs.cached.shows.Goals as goal

pub returns-in-Some : goal.returns-in-Some
returns-in-Some c s is h =
    shown _ c.args.cap (subst (λ o. IfSome o (IsWitness (In s))) c.in-Some.is is) (c.shows.ensures.holds h)
