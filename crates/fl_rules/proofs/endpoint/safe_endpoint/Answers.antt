use Rattle.std.proofs.Common.{sym, subst}
use Rattle.fl_labels.specs.Name.{name_cmp}
use Rattle.fl_labels.specs.Found.{Found}
use Rattle.fl_labels.specs.Caps.{Dual}
use Rattle.fl_rules.specs.Labels.{sets_of}
use Rattle.fl_rules.specs.Endpoint.{Crosses}
use Rattle.fl_rules.proofs.Endpoints.{either_found, endpoint_found}
use Rattle.fl_rules.proofs.endpoint.safe_endpoint.Goals as goal

pub returns-in-Both-clause-found : goal.returns-in-Both-clause-found
returns-in-Both-clause-found g c =
    let E = g.H.Has.effective c.args.has.now in
    let alike = g.met.H.Has.keeps_effective _ _ c.first_loosened-read.ensures.same in
    let found = either_found _ _ _ alike c.lesser.ensures c.first_loosened-read.ensures.found c.first_loosened-written.ensures.found in
    endpoint_found E c.args.mode _ _ _ (subst (λ mode. Found name_cmp (Crosses mode (sets_of c.args.process) (sets_of c.args.endpoint)) (Dual E) c.lesser.result) (sym c.in-Both.is) found)
