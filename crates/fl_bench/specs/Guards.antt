-- Checks of endpoints, and of messages that come to them.
use Rattle.std.specs.Prelude.{◌≡◌}
use Rattle.std.specs.declared.option.Option.TheVariants.{None, Some}
use Rattle.fl_labels.specs.Cap.{cap_cmp}
use Rattle.fl_labels.specs.Name.{name_cmp}
use Rattle.fl_labels.specs.SetBy.{SetBy, In}
use Rattle.fl_labels.specs.declared.endpoint.Endpoint.{Endpoint}
use Rattle.fl_rules.specs.Endpoint.{Crosses}
use Rattle.fl_rules.specs.Pair as pairs
use Rattle.fl_rules.specs.Pair.{SafePair, PairFails}
use Rattle.fl_labels.specs.Caps.{Caps, Dual}
use Rattle.fl_rules.specs.declared.endpoint.Mode.{Mode}
use Rattle.fl_rules.specs.declared.endpoint.Mode.TheVariants.{Write}
use Rattle.fl_rules.specs.declared.labels.Labels.{Labels}
use Rattle.fl_rules.specs.declared.pair.PairFault.{PairFault}
use Rattle.fl_rules.specs.declared.pair.PairFault.TheVariants as faults
use Rattle.fl_message.specs.declared.message.Data.{Data}
use Rattle.fl_mailbox.specs.Endpoints.{Table, end_of}
use Rattle.fl_mailbox.specs.Offenders.{offender_cmp, CrossesAt, DualAt}
use Rattle.fl_mailbox.specs.declared.endpoints.OpenEndpoint.{OpenEndpoint}
use Rattle.fl_mailbox.specs.declared.offender.Offender.{Offender}
use Rattle.fl_jobs.specs.declared.answer.Refusal.{Refusal}
use Rattle.fl_jobs.specs.declared.answer.Refusal.TheVariants.{MissingCap, UnsafeEndpoint}
use Rattle.fl_jobs.specs.declared.answer.Refusal.TheVariants.{NotWritable, NotReadable, Secrecy}
use Rattle.fl_jobs.specs.declared.answer.Refusal.TheVariants.{Integrity}
use Rattle.fl_bench.specs.Checks.{Check, demand}

-- of handing these on, by who has E in effect
abbrev pub grant_check : Caps → SetBy cap_cmp → Check
grant_check E caps = demand cap_cmp (In caps) E MissingCap

-- of an endpoint of this mode and these labels, at a process of these labels, by who has E in effect
abbrev pub endpoint_check : Caps → Labels → Endpoint → Mode → Labels → Check
endpoint_check E process e mode labels = demand name_cmp (Crosses mode process labels) (Dual E) (UnsafeEndpoint e)

abbrev pub unsafe_by : Offender → Refusal
unsafe_by x = UnsafeEndpoint x.endpoint x.tag

-- of all open endpoints
abbrev pub endpoints_check : Caps → Labels → Table → Check
endpoints_check E process table = demand offender_cmp (CrossesAt process table) (DualAt E) unsafe_by

-- the end that a message left
abbrev pub sent_from : Data → pairs.End
sent_from d = record { mode = Write; labels = record { secrecy = d.secrecy; integrity = d.integrity } }

-- why a message may not enter the endpoint
abbrev pub entry_refusal : Endpoint → PairFault → Refusal
entry_refusal e faults.NotWritable = NotWritable e
entry_refusal e faults.NotReadable = NotReadable e
entry_refusal e (faults.Secrecy tag) = Secrecy tag
entry_refusal e (faults.Integrity tag) = Integrity tag

-- of the message on its way into the open endpoint
abbrev pub pair_check : Data → OpenEndpoint → Check
pair_check d opened None = SafePair (sent_from d) (end_of opened)
pair_check d opened (Some f) =
    (fault : PairFault) × (f ≡ entry_refusal d.to fault) × PairFails (sent_from d) (end_of opened) fault
