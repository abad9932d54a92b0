-- The open endpoints of a process.
use Rattle.std.specs.Prelude.{◌≡◌}
use Rattle.std.specs.declared.option.Option.{Option}
use Rattle.std.specs.declared.option.Option.TheVariants.{Some}
use Rattle.std.specs.FinMap as map
use Rattle.fl_labels.specs.Endpoint.{endpoint_cmp}
use Rattle.fl_labels.specs.Found.{Found}
use Rattle.fl_labels.specs.declared.endpoint.Endpoint.{Endpoint}
use Rattle.fl_rules.specs.Pair as pairs
use Rattle.fl_mailbox.specs.declared.endpoints.OpenEndpoint.{OpenEndpoint}

-- those that are open, by number
abbrev pub Table : Type 0
Table = map.FinMap endpoint_cmp OpenEndpoint

-- an open endpoint as one end of a pair
abbrev pub end_of : OpenEndpoint → pairs.End
end_of opened = record { mode = opened.mode; labels = opened.labels }

-- the endpoint is open
abbrev pub IsOpen : Table → Endpoint → Type 0
IsOpen table e = (opened : OpenEndpoint) × (map.get table e ≡ Some opened)

-- the least endpoint that is not open, or none where each is
abbrev pub IsLeastFree : Table → Option Endpoint → Type 0
IsLeastFree table found = Found endpoint_cmp (λ _. Unit {0}) (IsOpen table) found
