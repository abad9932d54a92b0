use Rattle.fl_dir_maker.proofs.host.HostFilesOpensFiles.open.Goals as goal

pub returns-in-Ok-new-clause-reads : goal.returns-in-Ok-new-clause-reads
returns-in-Ok-new-clause-reads c clean = tt
