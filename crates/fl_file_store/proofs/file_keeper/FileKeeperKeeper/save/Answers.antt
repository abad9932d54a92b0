use Rattle.fl_file_store.proofs.file_keeper.FileKeeperKeeper.save.Goals as goal

pub returns-in-Open-clause-held : goal.returns-in-Open-clause-held
returns-in-Open-clause-held g c = rw c.in-Open.is c.save.ensures.held
