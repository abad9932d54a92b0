use Rattle.std.proofs.Common.{is_some, ap, ◌∙◌}
use Rattle.fl_labels.specs.Endpoint.{endpoint_total, endpoint_exact}
use Rattle.fl_mailbox.specs.laws.Tables.{get_held, one_gone}
use Rattle.fl_mailbox.proofs.endpoints.Endpoints.remove.Goals as goal

pub returns-clause-after : goal.returns-clause-after
returns-clause-after c =
    one_gone endpoint_total endpoint_exact c.self.inside.all.entries c.remove.new.self.entries c.args.self.now c.args.endpoint c.self.view_is c.remove.ensures.updates.0

pub returns-clause-was : goal.returns-clause-was
returns-clause-was c =
    c.is_some.ensures ∙ ap is_some (c.remove.ensures.value ∙ get_held endpoint_total endpoint_exact c.self.inside.all.entries c.args.self.now c.args.endpoint c.self.view_is)
