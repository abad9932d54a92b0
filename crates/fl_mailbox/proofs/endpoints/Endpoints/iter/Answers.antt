use Rattle.std.proofs.Common.{◌∙◌}
use Rattle.fl_labels.specs.Endpoint.{endpoint_total, endpoint_exact}
use Rattle.fl_mailbox.specs.laws.Tables.{entries_held}
use Rattle.fl_mailbox.proofs.endpoints.Endpoints.iter.Goals as goal

pub returns : goal.returns
returns c =
    c.iter.ensures.rest ∙ entries_held endpoint_total endpoint_exact c.self.inside.all.entries c.args.self.now c.self.view_is c.iter.ensures.ordered
