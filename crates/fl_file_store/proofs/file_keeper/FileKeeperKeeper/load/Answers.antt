use Rattle.fl_file_store.proofs.file_keeper.FileKeeperKeeper.load.Goals as goal

pub returns-in-Open-clause-cause : goal.returns-in-Open-clause-cause
returns-in-Open-clause-cause g c = rw c.in-Open.is c.load.ensures.cause

pub returns-in-Open-clause-counted : goal.returns-in-Open-clause-counted
returns-in-Open-clause-counted g c = rw c.in-Open.is c.load.ensures.counted

pub returns-in-Open-clause-whole : goal.returns-in-Open-clause-whole
returns-in-Open-clause-whole g c = rw c.in-Open.is c.load.ensures.whole

pub returns-in-Open-clause-held : goal.returns-in-Open-clause-held
returns-in-Open-clause-held g c = rw c.in-Open.is c.load.ensures.held
