use Rattle.std.proofs.Common.{refl}
use Rattle.fl_opset.proofs.OfNode.{login_of_node}
use Rattle.fl_opset.proofs.set.OpSet.first_login.Goals as goal

pub returns : goal.returns
returns c =
    login_of_node c.args.self.now c.args.name.node c.of_node.result.now c.of_node.ensures.only c.of_node.ensures.all c.args.name refl c.first_login.result c.first_login.ensures
