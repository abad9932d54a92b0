use Rattle.fl_one_worker_scripts.proofs.Beginning.{as_without}
use Rattle.fl_one_worker_scripts.proofs.laws.law_one_worker_script.Goals as goal

pub returns : goal.returns
returns g c =
    λ maker lines end all shared sure. as_without g.M.K.Keeper.custody g.M.MakesKeepers.making
    g.M.MakesKeepers.told c.law_one_worker.ensures.opened c.law_one_worker.ensures.restarted
    c.law_one_worker_batch.ensures.jobs c.law_one_worker_batch.ensures.packet maker lines end all
    shared sure
