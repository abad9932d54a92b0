use Rattle.std.proofs.Common.{◌∙◌, sym}
use Rattle.fl_bench.proofs.Listing.{two, turned, twice}
use Rattle.fl_bench.proofs.taken.Taken.both.Goals as goal

pub returns-in-Less : goal.returns-in-Less
returns-in-Less c = two c.args.first c.args.second (sym c.cmp.ensures ∙ c.in-Less.is)

pub returns-in-Equal : goal.returns-in-Equal
returns-in-Equal c = twice c.args.first c.args.second (sym c.cmp.ensures ∙ c.in-Equal.is)

pub returns-in-Greater : goal.returns-in-Greater
returns-in-Greater c = turned c.args.first c.args.second (sym c.cmp.ensures ∙ c.in-Greater.is)
