-- What contracts see of the crews of a script.
use Rattle.std.specs.Prelude.{◌≡◌, ◌≢◌, ◌++◌, [], ℕ, List, refl}
use Rattle.std.specs.Coded.{Coded, code_by, coded×, coded_ℕ, coded_list, coded_option}
use Rattle.std.specs.FinMap as map
use Rattle.std.specs.Ordering.{nat_cmp}
use Rattle.std.specs.declared.option.Option.{Option}
use Rattle.std.specs.declared.option.Option.TheVariants.{None, Some}
use Rattle.fl_wire.specs.contracts.packet.Packet as packet_row
use Rattle.fl_wire.specs.declared.packet.Packet.{Packet}
use Rattle.fl_workers.specs.Over.{CrewOver, coded_crew}

-- crews by the numbers of their nodes, which are there from their opening on, with who makes their
-- keepers, how many workers each has, and every packet that they sent
pub record CrewsOver (K M : Type 0) : Type 0 where
  pub maker : M
  pub workers : ℕ
  -- a place is empty only while its crew is restarted
  pub crews : map.FinMap nat_cmp (Option (CrewOver K))
  pub sent : List Packet

-- without a crew
abbrev pub begun_crews : {K M : Type 0} → M → ℕ → CrewsOver K M
begun_crews maker workers =
    record { maker = maker; workers = workers; crews = map.empty; sent = [] }

-- the crew of the node of this number
abbrev pub IsCrewAt : {K M : Type 0} → CrewsOver K M → ℕ → CrewOver K → Type 0
IsCrewAt c number crew = map.get c.crews number ≡ Some (Some crew)

-- the node of this number has no crew
abbrev pub IsUnopened : {K M : Type 0} → CrewsOver K M → ℕ → Type 0
IsUnopened c number = map.get c.crews number ≡ None

-- no place is empty
abbrev pub AreThere : {K : Type 0} → map.FinMap nat_cmp (Option (CrewOver K)) → Type 0
AreThere crews = (number : ℕ) → map.get crews number ≢ Some None

-- this is the crew of the node now
abbrev pub with_crew : {K M : Type 0} → CrewsOver K M → ℕ → CrewOver K → CrewsOver K M
with_crew c number crew = record c { crews = map.insert c.crews number (Some crew) }

-- these packets were sent too
abbrev pub with_sent : {K M : Type 0} → CrewsOver K M → List Packet → CrewsOver K M
with_sent c packets = record c { sent = c.sent ++ packets }

-- they are stored as the tuple of their fields
abbrev pub coded_crews : {K M : Type 0} → Coded K → Coded M → Coded (CrewsOver K M)
coded_crews {K} {M} keeper maker =
    code_by (M × (ℕ × (map.FinMap nat_cmp (Option (CrewOver K)) × List Packet)))
    (coded× maker (coded× coded_ℕ (coded× (map.code coded_ℕ (coded_option (coded_crew keeper)))
    (coded_list (packet_row.the_row).coded))))
    (λ c. (c.maker, (c.workers, (c.crews, c.sent))))
    (λ t. record { maker = t.0; workers = t.1.0; crews = t.1.1.0; sent = t.1.1.1 })
    (λ _. refl)
