use Rattle.fl_labels.specs.SetBy as set
use Rattle.fl_crew_lines.proofs.Unions.{both_added}
use Rattle.fl_crew_lines.proofs.asking.all_of.Goals as goal

pub returns-clause-ok : goal.returns-clause-ok
returns-clause-ok g c =
    both_added c.new-all.result c.add_to.new.all c.add_to-2.new.all (set.of_list c.args.first.now.node.published) (set.of_list c.args.second.now.node.published)
    c.new-all.ensures c.in_ok-add_to.ensures.ok c.in_ok-add_to-2.ensures.ok
