use Rattle.std.proofs.lemmas.Result.{IfErr-weaker, IfOk-weaker}
use Rattle.fl_node_files.specs.Making.{not_new, unmerged}
use Rattle.fl_node_files.proofs.Nodes.{made_in}
use Rattle.fl_node_files.proofs.making.make.Goals as goal

pub returns-in-Ok-require_new-clause-made : goal.returns-in-Ok-require_new-clause-made
returns-in-Ok-require_new-clause-made g c =
    let new = c.in-Ok-require_new.ensures in
    IfOk-weaker c.merge.result _ _
    (λ files copied clean. made_in g.met.O.D.Disk.seen_may_stay _ c.args.number c.in-Ok.conn c.require_new.new.conn files
    c.in-Ok.ensures.node new.survives new.new new.same (copied clean))
    c.merge.ensures.copied

pub returns-in-Ok-require_new-clause-unmade : goal.returns-in-Ok-require_new-clause-unmade
returns-in-Ok-require_new-clause-unmade g c =
    IfErr-weaker c.merge.result _ _ (λ why it. unmerged c.require_new.new.conn it) c.merge.ensures.unmerged

pub returns-in-Err-require_new-clause-unmade : goal.returns-in-Err-require_new-clause-unmade
returns-in-Err-require_new-clause-unmade g c =
    not_new c.in-Ok.conn c.require_new.new.conn c.in-Ok.ensures.node c.in-Err-require_new.ensures.refuses
