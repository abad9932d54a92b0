use Rattle.std.proofs.Common.{arith, ap, length}
use Rattle.fl_aliases.proofs.Tables.{last_one}
use Rattle.fl_aliases.proofs.table.Aliases.take_back.Goals as goal

pub returns : goal.returns
returns c =
    last_one c.self.inside.targets.entries c.args.self.now c.pop.new.self.entries c.pop.result c.self.view_is c.pop.ensures.entries (c.pop.ensures.found.1 (omega (arith, c.requires, ap length c.self.view_is)))
