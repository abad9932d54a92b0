use Rattle.fl_closure.specs.declared.rows.Owner.TheVariants.{Everybody}
use Rattle.fl_closure.proofs.globals.Globals.new.Goals as goal

pub returns : goal.returns
returns c = c.new.ensures Everybody
