use Rattle.fl_labels.specs.Endpoint.{endpoint_total, endpoint_exact}
use Rattle.fl_mailbox.specs.laws.Tables.{one_put}
use Rattle.fl_mailbox.proofs.endpoints.Endpoints.insert.Goals as goal

pub returns-clause-ok : goal.returns-clause-ok
returns-clause-ok c =
    one_put endpoint_total endpoint_exact c.self.inside.all.entries c.insert.new.self.entries c.args.self.now c.args.endpoint c.args.opened c.self.view_is c.in_ok-insert.ensures.updates.0
