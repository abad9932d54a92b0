use Rattle.std.proofs.Common.{◌∙◌}
use Rattle.fl_labels.specs.Endpoint.{endpoint_total, endpoint_exact}
use Rattle.fl_mailbox.specs.laws.Tables.{get_held}
use Rattle.fl_mailbox.proofs.endpoints.Endpoints.get.Goals as goal

pub returns : goal.returns
returns c =
    c.get.ensures.value ∙ get_held endpoint_total endpoint_exact c.self.inside.all.entries c.args.self.now c.args.endpoint c.self.view_is
