use Rattle.fl_rules.proofs.Endpoints.{either_found}
use Rattle.fl_rules.proofs.endpoint.first_loosened.Goals as goal

pub returns-clause-found : goal.returns-clause-found
returns-clause-found g c =
    let alike = g.met.H.Has.keeps_effective _ _ c.first_lost-lost.ensures.same in
    either_found _ _ _ alike c.lesser.ensures c.first_lost-lost.ensures.found c.first_lost-gained.ensures.found
