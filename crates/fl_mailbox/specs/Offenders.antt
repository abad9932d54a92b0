-- When the endpoints of a process are safe, and what makes them unsafe.
use Rattle.std.specs.Prelude.{◌≡◌}
use Rattle.std.specs.FinMap as map
use Rattle.std.specs.declared.cmp.Ordering.{Ordering}
use Rattle.std.specs.declared.option.Option.TheVariants.{Some}
use Rattle.std.specs.Ordering.{ordering_then}
use Rattle.fl_labels.specs.Endpoint.{endpoint_cmp}
use Rattle.fl_labels.specs.declared.endpoint.Endpoint.{Endpoint}
use Rattle.fl_labels.specs.Name.{name_cmp}
use Rattle.fl_labels.specs.Caps.{Caps, Dual}
use Rattle.fl_rules.specs.Endpoint.{Crosses, SafeEndpoint}
use Rattle.fl_rules.specs.declared.labels.Labels.{Labels}
use Rattle.fl_mailbox.specs.Endpoints.{Table}
use Rattle.fl_mailbox.specs.declared.endpoints.OpenEndpoint.{OpenEndpoint}
use Rattle.fl_mailbox.specs.declared.offender.Offender.{Offender}

-- by the endpoint, then by the tag
abbrev pub offender_cmp : Offender → Offender → Ordering
offender_cmp a b = ordering_then (endpoint_cmp a.endpoint b.endpoint) (name_cmp a.tag b.tag)

-- the tag is lost or gained, on the ways that its mode names, between the open endpoint and a process of these labels
abbrev pub CrossesAt : Labels → Table → Offender → Type 0
CrossesAt process table x =
    (opened : OpenEndpoint) × (map.get table x.endpoint ≡ Some opened) × Crosses opened.mode process opened.labels x.tag

-- each open endpoint is safe beside a process of these labels
abbrev pub AllSafe : Caps → Labels → Table → Type 0
AllSafe E process table = (endpoint : Endpoint) (opened : OpenEndpoint) → map.get table endpoint ≡ Some opened
    → SafeEndpoint E opened.mode process opened.labels

-- its tag may be both added and removed by who has E in effect
abbrev pub DualAt : Caps → Offender → Type 0
DualAt E x = Dual E x.tag
