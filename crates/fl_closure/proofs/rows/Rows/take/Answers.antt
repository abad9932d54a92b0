use Rattle.std.proofs.Common.{sym, refl}
use Rattle.fl_closure.proofs.Rowing.{take_through}
use Rattle.fl_closure.proofs.rows.Rows.take.Goals as goal

pub returns-in-Some : goal.returns-in-Some
returns-in-Some c =
    rw c.in-Group.is (take_through c.args.self.now _ c.in-Group.name refl _ _ (c.get_mut.follows.holds c.take.new.self).3 (sym c.in-Some.ensures.value) c.args.block c.take.ensures)
