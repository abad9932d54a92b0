use Rattle.fl_labels.specs.SetBy as set
use Rattle.fl_crew_lines.proofs.Unions.{one_added}
use Rattle.fl_crew_lines.proofs.asking.published.Goals as goal

pub returns-clause-ok : goal.returns-clause-ok
returns-clause-ok g c =
    one_added c.new-all.result c.add_to.new.all (set.of_list c.args.node.now.node.published) c.new-all.ensures c.in_ok-add_to.ensures.ok
