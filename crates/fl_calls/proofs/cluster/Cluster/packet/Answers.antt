use Rattle.std.proofs.Common.{◌∙◌, ap}
use Rattle.fl_calls.proofs.Bringing.{found}
use Rattle.fl_calls.proofs.cluster.Cluster.packet.Goals as goal

pub returns : goal.returns
returns g c = found c.packet_at.result _ _ c.args.number (c.packets.ensures ∙ ap (λ x. x.world.packets) c.self.view_is) c.packet_at.ensures
