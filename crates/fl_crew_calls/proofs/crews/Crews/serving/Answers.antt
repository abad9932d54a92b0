use Rattle.std.proofs.Common.{◌∙◌, subst, sym}
use Rattle.fl_system.specs.Waiting.{IsRunning}
use Rattle.fl_crew_calls.proofs.crews.Crews.serving.Goals as goal

pub returns-clause-ok : goal.returns-clause-ok
returns-clause-ok g c = (
  c.in-Some.crew.now,
  c.in-Some.ensures.some,
  (
    sym c.is_stopped.ensures ∙ c.if-is_stopped.false,
    subst (λ n. IsRunning n.node.state) c.node-node.ensures c.in_ok-runs.ensures.ok,
  ),
  c.node-node.ensures,
)
