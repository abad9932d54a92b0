use Rattle.fl_cluster.proofs.run.run.Goals as goal

pub returns-clause-served : goal.returns-clause-served
returns-clause-served g c = c.converse.ensures.served
