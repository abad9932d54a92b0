use Rattle.std.proofs.Common.{sym, subst}
use Rattle.fl_dir_maker.specs.Keeping.{IsUnconnected, no_files, no_database}
use Rattle.fl_dir_maker.proofs.opening.connect.Goals as goal

pub returns-in-Err-clause-unconnected : goal.returns-in-Err-clause-unconnected
returns-in-Err-clause-unconnected g c = no_files c.in-Err.ensures.files c.in-Err.ensures.fails

pub returns-in-Err-open_files-clause-unconnected : goal.returns-in-Err-open_files-clause-unconnected
returns-in-Err-open_files-clause-unconnected g c =
    subst (IsUnconnected _ _ _) (sym c.of_database.ensures)
    (no_database c.in-Err-open_files.error
    (c.in-Ok.opened.0, c.in-Ok.ensures.reads, c.in-Err-open_files._left, c.in-Err-open_files.ensures.cause))
