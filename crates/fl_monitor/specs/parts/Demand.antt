-- What is demanded of who asks for something.
use Rattle.fl_labels.specs.Caps.{Caps}
use Rattle.fl_rules.specs.Labels.{sets_of}
use Rattle.fl_bench.specs.Checks.{Check}
use Rattle.fl_bench.specs.Guards.{grant_check, endpoint_check, endpoints_check}
use Rattle.fl_bench.specs.Jobs.{order_checks, change_check, emission_check}
use Rattle.fl_monitor.specs.declared.demand.Demand as demands
use Rattle.fl_monitor.specs.declared.demand.Demand.TheVariants.{Change, Emission, Order, Grant, Endpoint, Endpoints}

-- the check of a demand, by who has E in effect
abbrev pub demanded : demands.Demand → Caps → Check
demanded (Change from to) E = change_check E from.now to.now
demanded (Emission secrecy) E = emission_check E secrecy.now
demanded (Order order) E = order_checks E order
demanded (Grant caps) E = grant_check E caps.now
demanded (Endpoint process e end) E = endpoint_check E (sets_of process) e end.mode (sets_of end.labels)
demanded (Endpoints process table) E = endpoints_check E (sets_of process) table.now
