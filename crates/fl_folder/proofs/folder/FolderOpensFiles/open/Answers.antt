use Rattle.fl_folder.specs.Lying.{place}
use Rattle.fl_folder.proofs.Reaching.{both_usable, taken_reads, refused_of_files, refused_fails, opened_holds, opened_fails, same_holds, same_fails, opened_once}
use Rattle.fl_folder.proofs.folder.FolderOpensFiles.open.Goals as goal

pub returns-in-Ok-clause-log : goal.returns-in-Ok-clause-log
returns-in-Ok-clause-log c = (both_usable _ _ c.in-Ok.ensures.usable).0

pub returns-in-Ok-clause-db : goal.returns-in-Ok-clause-db
returns-in-Ok-clause-db c = (both_usable _ _ c.in-Ok.ensures.usable).1

pub returns-in-Ok-clause-reads : goal.returns-in-Ok-clause-reads
returns-in-Ok-clause-reads c clean = taken_reads (place c.args.self.now c.args.path.now) c.in-Ok.files c.in-Ok.ensures.taken

pub returns-in-Ok-clause-same_holds : goal.returns-in-Ok-clause-same_holds
returns-in-Ok-clause-same_holds c = opened_holds c.args.self.now c.take.new.self c.args.path.now c.in-Ok.ensures.opens

pub returns-in-Ok-clause-same_fails : goal.returns-in-Ok-clause-same_fails
returns-in-Ok-clause-same_fails c = opened_fails c.args.self.now c.take.new.self c.args.path.now c.in-Ok.ensures.opens

pub returns-in-Ok-clause-out : goal.returns-in-Ok-clause-out
returns-in-Ok-clause-out c = opened_once c.args.self.now c.take.new.self c.args.path.now c.in-Ok.ensures.opens

pub returns-in-Err-clause-files : goal.returns-in-Err-clause-files
returns-in-Err-clause-files c = refused_of_files (place c.args.self.now c.args.path.now) c.in-Err.cause c.in-Err.ensures.refuses

pub returns-in-Err-clause-fails : goal.returns-in-Err-clause-fails
returns-in-Err-clause-fails c = refused_fails (place c.args.self.now c.args.path.now) c.in-Err.cause c.in-Err.ensures.refuses

pub returns-in-Err-clause-same_holds : goal.returns-in-Err-clause-same_holds
returns-in-Err-clause-same_holds c = same_holds c.args.self.now c.take.new.self c.in-Err.ensures.same

pub returns-in-Err-clause-same_fails : goal.returns-in-Err-clause-same_fails
returns-in-Err-clause-same_fails c = same_fails c.args.self.now c.take.new.self c.in-Err.ensures.same
