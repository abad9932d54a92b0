use Rattle.std.proofs.Common.{arith}
use Rattle.fl_dir_maker.proofs.Files.{own_file}
use Rattle.fl_dir_maker.proofs.file.file_of.Goals as goal

pub returns-clause-own : goal.returns-clause-own
returns-clause-own c = λ other low there. own_file _ c.args.dir.now c.args.number other (omega (arith, c.ranges.number)) low c.in_ok-path.ensures there
