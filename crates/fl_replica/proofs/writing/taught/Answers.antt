use Rattle.fl_replica.proofs.Turning.{forks, merges}
use Rattle.fl_replica.proofs.writing.taught.Goals as goal

pub tell-requires : goal.tell-requires
tell-requires c = forks _ _

pub learn-requires-clause-rule : goal.learn-requires-clause-rule
learn-requires-clause-rule c = merges _ _ _ _
