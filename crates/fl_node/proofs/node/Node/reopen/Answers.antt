use Rattle.fl_system.specs.Openings.{Reopens}
use Rattle.fl_node.proofs.CauseLemmas.{with_made}
use Rattle.fl_node.proofs.RecoverLemmas.{is_stopped}
use Rattle.fl_node.proofs.node.Node.reopen.Goals as goal

pub returns-clause-stopped : goal.returns-clause-stopped
returns-clause-stopped g c _ = rw (← c.self.view_is) (
  c.make.result,
  c.make.ensures,
  λ honest.
      let held = c.open_again-result.ensures.opens honest in
      (held.0, λ after is. let b = held.1 after is in (b.0, b.1, Reopens.reopens (is_stopped _ _ c.in-Err.ensures.err) b.2)),
)

pub returns-clause-cause : goal.returns-clause-cause
returns-clause-cause g c = rw (← c.self.view_is) (with_made _ _ _ _ _ c.make.result c.make.ensures c.open_again-result.ensures.cause)

pub returns-clause-broken : goal.returns-clause-broken
returns-clause-broken g c _ = rw (← c.self.view_is) (c.make.result, c.make.ensures, c.open_again-result.ensures.broken)

pub returns-clause-other : goal.returns-clause-other
returns-clause-other g c _ = rw (← c.self.view_is) (c.make.result, c.make.ensures, c.open_again-result.ensures.other)
