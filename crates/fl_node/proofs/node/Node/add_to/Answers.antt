use Rattle.std.proofs.Common.{◌∙◌, sym}
use Rattle.fl_node.proofs.Registries.{nothing_published}
use Rattle.fl_node.proofs.node.Node.add_to.Goals as goal

pub returns-then-is_empty-clause-ok : goal.returns-then-is_empty-clause-ok
returns-then-is_empty-clause-ok g c =
    rw (← c.self.view_is) (nothing_published c.args.all.now c.self.inside.listing.published c.list.result.now c.list.ensures
    (sym c.is_empty.ensures ∙ c.if-is_empty.true))
