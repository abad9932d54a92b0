use Rattle.fl_closure.proofs.Indexing.{came_row, told_behind}
use Rattle.fl_closure.specs.laws.Told.{came_some, came_nothing}
use Rattle.fl_closure.proofs.index.Index.witness.Goals as goal

pub returns-in-Some : goal.returns-in-Some
returns-in-Some c =
    came_row c.args.self.now c.args.owned.now c.args.cap _ _ c.self.view_is c.self.invariant.is_closure.closed _ (came_some _ _ _ _ c.in-Some.is c.everybodys.ensures)

pub returns-in-None : goal.returns-in-None
returns-in-None c =
    told_behind c.args.self.now c.args.owned.now c.args.cap _ _ c.self.view_is c.self.invariant.is_closure.closed _ c.uses.ensures c.requires
    (came_nothing _ _ _ c.in-None.is c.everybodys.ensures) _ c.one_behind.ensures
