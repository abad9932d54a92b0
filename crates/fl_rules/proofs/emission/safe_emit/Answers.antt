use Rattle.fl_rules.proofs.Duals.{emission_found}
use Rattle.fl_rules.proofs.emission.safe_emit.Goals as goal

pub returns-clause-found : goal.returns-clause-found
returns-clause-found g c =
    emission_found (g.H.Has.effective c.args.has.now) _ _ _ c.as_slice.ensures c.first_kept.ensures.first
