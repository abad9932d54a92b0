use Rattle.fl_cluster.proofs.Failures.{no_three, says_failed}
use Rattle.fl_cluster.proofs.Turning.{responds_asked, responds_united, responds_counted, responds_listed}
use Rattle.fl_cluster.proofs.asking.respond_to.Goals as goal

pub returns-in-Node-clause-responds : goal.returns-in-Node-clause-responds
returns-in-Node-clause-responds g c = rw c.in-Node.is (responds_asked g.M.K.Keeper.custody g.M.MakesKeepers.making _ _ _ _ _ c.respond_for.ensures.goes)

pub returns-in-Union-clause-responds : goal.returns-in-Union-clause-responds
returns-in-Union-clause-responds g c = rw c.in-Union.is (responds_united g.M.K.Keeper.custody g.M.MakesKeepers.making _ _ _ _ _ c.union.ensures.goes)

pub returns-in-Audit-clause-responds : goal.returns-in-Audit-clause-responds
returns-in-Audit-clause-responds g c = rw c.in-Audit.is (responds_counted g.M.K.Keeper.custody g.M.MakesKeepers.making _ _ c.audit.ensures.counts)

pub returns-in-Aliases-clause-responds : goal.returns-in-Aliases-clause-responds
returns-in-Aliases-clause-responds g c = rw c.in-Aliases.is (responds_listed g.M.K.Keeper.custody g.M.MakesKeepers.making _)

pub returns-in-Node-clause-cause : goal.returns-in-Node-clause-cause
returns-in-Node-clause-cause g c three = rw c.in-Node.is (c.respond_for.ensures.cause (says_failed _ three))

pub returns-in-Union-clause-cause : goal.returns-in-Union-clause-cause
returns-in-Union-clause-cause g c three = rw c.in-Union.is (c.union.ensures.cause (says_failed _ three))

pub returns-in-Audit-clause-cause : goal.returns-in-Audit-clause-cause
returns-in-Audit-clause-cause g c three = absurd (c.audit.ensures.cause (says_failed _ three))

pub returns-in-Aliases-clause-cause : goal.returns-in-Aliases-clause-cause
returns-in-Aliases-clause-cause g c three = absurd (no_three three)
