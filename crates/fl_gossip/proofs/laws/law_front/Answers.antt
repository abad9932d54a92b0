use Rattle.fl_gossip.specs.laws.OneCutting.{one_way, first_packets}
use Rattle.fl_gossip.proofs.laws.law_front.Goals as goal

pub returns-clause-one : goal.returns-clause-one
returns-clause-one c = one_way

pub returns-clause-front : goal.returns-clause-front
returns-clause-front c = first_packets
