use Rattle.std.proofs.Common.{subst}
use Rattle.fl_gossip.specs.Taking.{ops_of, AreTaken}
use Rattle.fl_gossip.specs.laws.Rising.{taken_rise}
use Rattle.fl_node.proofs.ReceiveLemmas.{can_take, lacking_taken, new_taken, not_taken, rises}
use Rattle.fl_node.proofs.node.Node.news.Goals as goal

pub from_rising-requires : goal.from_rising-requires
from_rising-requires g c = taken_rise _ _ c.args.packet.now c.in-Ok.ops.items c.in-Ok.ensures

pub returns-in-Ok-clause-can : goal.returns-in-Ok-clause-can
returns-in-Ok-clause-can g c = rw (← c.self.view_is) (can_take _ _ _ c.in-Ok.ensures)

pub returns-in-Ok-clause-lacking : goal.returns-in-Ok-clause-lacking
returns-in-Ok-clause-lacking g c =
    let taken = subst (λ x. AreTaken x.node.number x.node.saved (ops_of c.args.packet.now) c.in-Ok.ops.items) c.self.view_is c.in-Ok.ensures in
    lacking_taken c.args.self.now.node (ops_of c.args.packet.now) c.in-Ok.ops.items _ c.from_rising.ensures taken

pub returns-in-Ok-clause-new : goal.returns-in-Ok-clause-new
returns-in-Ok-clause-new g c =
    let taken = subst (λ x. AreTaken x.node.number x.node.saved (ops_of c.args.packet.now) c.in-Ok.ops.items) c.self.view_is c.in-Ok.ensures in
    new_taken c.args.self.now.node (ops_of c.args.packet.now) c.in-Ok.ops.items _ c.from_rising.ensures (rises c.args.packet.now) taken

pub returns-in-Err-clause-err : goal.returns-in-Err-clause-err
returns-in-Err-clause-err g c = rw (c.shown.ensures, ← c.self.view_is) (not_taken _ _ _ c.in-Err.ensures)
