use Rattle.std.proofs.Common.{sym, ◌∙◌}
use Rattle.std.proofs.lemmas.Bool.{false≢true}
use Rattle.fl_labels.specs.Endpoint.{endpoint_total, endpoint_exact}
use Rattle.fl_mailbox.specs.laws.Tables.{nothing_held, something_held}
use Rattle.fl_mailbox.proofs.endpoints.Endpoints.is_empty.Goals as goal

pub returns-clause-none : goal.returns-clause-none
returns-clause-none c =
    λ yes. nothing_held endpoint_total endpoint_exact c.self.inside.all.entries c.args.self.now c.self.view_is (c.is_empty.ensures.0 yes)

pub returns-clause-some : goal.returns-clause-some
returns-clause-some c =
    λ no. something_held endpoint_total endpoint_exact c.self.inside.all.entries c.args.self.now c.self.view_is (λ none. false≢true (sym no ∙ c.is_empty.ensures.1 none))
