-- A world: numbered nodes, every packet ever sent, and what was admitted.
use Rattle.std.specs.Prelude.{◌++◌, ℕ, List, [], refl}
use Rattle.std.specs.Coded.{Coded, code_by, coded×, coded_ℕ, coded_list}
use Rattle.std.specs.FinMap as map
use Rattle.std.specs.Ordering.{nat_cmp}
use Rattle.fl_store.specs.Kept.{Kept}
use Rattle.fl_system.specs.declared.admission.Admission.{Admission}
use Rattle.fl_system.specs.declared.sent.Sent.{Sent}
use Rattle.fl_system.specs.contracts.admission.Admission as admissions_row
use Rattle.fl_system.specs.contracts.sent.Sent as sent_row
use Rattle.fl_system.specs.State.{NodeState}

-- a node, and what is kept of it: what its next opening finds
pub record KeptNode : Type 0 where
  pub node : NodeState
  pub kept : Kept

-- a world of nodes of some kind
pub record WorldOf (N : Type 0) : Type 0 where
  -- how many desks each node has
  pub desks : ℕ
  -- by their numbers
  pub nodes : map.FinMap nat_cmp N
  -- in the order of sending
  pub packets : List Sent
  -- in the order of the run
  pub audit : List Admission

abbrev pub World : Type 0
World = WorldOf KeptNode

-- without a node
abbrev pub empty_of : {N : Type 0} → ℕ → WorldOf N
empty_of desks = record { desks = desks; nodes = map.empty; packets = []; audit = [] }

abbrev pub empty_world : ℕ → World
empty_world = empty_of

-- with this node of this number, and what is kept of it, after these packets were sent and these things admitted
abbrev pub went : World → ℕ → NodeState → Kept → List Sent → List Admission → World
went w number node kept sent admitted =
    record w {
      nodes = map.insert w.nodes number (record { node = node; kept = kept });
      packets = w.packets ++ sent;
      audit = w.audit ++ admitted;
    }

-- it is stored as the tuple of its fields
abbrev pub coded_world_of : {N : Type 0} → Coded N → Coded (WorldOf N)
coded_world_of {N} node =
    code_by (ℕ × (map.FinMap nat_cmp N × (List Sent × List Admission)))
    (coded× coded_ℕ (coded× (map.code coded_ℕ node)
    (coded× (coded_list (sent_row.the_row).coded) (coded_list (admissions_row.the_row).coded))))
    (λ w. (w.desks, (w.nodes, (w.packets, w.audit))))
    (λ t. record { desks = t.0; nodes = t.1.0; packets = t.1.1.0; audit = t.1.1.1 })
    (λ _. refl)
