use Rattle.fl_rules.specs.laws.Endpoints.{safe_crosses, crosses_safe}
use Rattle.fl_rules.proofs.laws.law_endpoint.Goals as goal

pub returns : goal.returns
returns g c = λ h mode process endpoint. (safe_crosses mode process endpoint, crosses_safe mode process endpoint)
