use Rattle.std.proofs.Common.{rules}
use Rattle.fl_aliases.proofs.table.Aliases.text_of.Goals as goal

pub returns : goal.returns
returns c = (c.in_ok-placed.placed.now, search rules, c.text.ensures)
