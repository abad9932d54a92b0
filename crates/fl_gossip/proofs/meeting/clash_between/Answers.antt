use Rattle.fl_ops.specs.Registry.{Listed}
use Rattle.fl_gossip.specs.Meeting.{IsClashOf}
use Rattle.fl_gossip.specs.laws.Leasts.{least_same, clash_turned}
use Rattle.fl_gossip.proofs.meeting.clash_between.Goals as goal

pub returns-else-ours-theirs : goal.returns-else-ours-theirs
returns-else-ours-theirs c =
    let U = Listed c.args.ours.now in
    let V = Listed c.args.theirs.now in
    least_same (IsClashOf V U) (IsClashOf U V) (clash_turned V U) (clash_turned U V) c.first_clash-else-ours-theirs.result c.first_clash-else-ours-theirs.ensures
