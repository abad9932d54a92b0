use Rattle.fl_chains.proofs.Rooting.{told_group}
use Rattle.fl_chains.proofs.roots.is_root.Goals as goal

pub returns-in-Group : goal.returns-in-Group
returns-in-Group c = rw (c.in-Group.is) (told_group c.args.cap _ c.eq.result c.eq.ensures)
