-- Why operations are not taken.
use Rattle.fl_jobs.specs.declared.answer.Refusal.TheVariants.{Memory}
use Rattle.fl_gossip.specs.declared.fault.GossipFault.{GossipFault}
use Rattle.fl_gossip.specs.declared.fault.GossipFault.TheVariants as gossip
use Rattle.fl_system.specs.declared.answer.Fault.{Fault}
use Rattle.fl_system.specs.declared.answer.Fault.TheVariants.{Refused, Clash, Impostor}

-- what is answered then
abbrev pub untaken_as : GossipFault → Fault
untaken_as (gossip.Impostor name) = Impostor name
untaken_as (gossip.Clash name) = Clash name
untaken_as gossip.Memory = Refused Memory
