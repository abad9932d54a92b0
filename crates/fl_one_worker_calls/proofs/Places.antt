-- The nodes of a world after one of them was put there.
use Rattle.std.proofs.Common.{◌≡◌, ◌≢◌, ℕ, List, [], ◌∷◌, ◌++◌, ◌∙◌, Some, inl, inr}
use Rattle.std.proofs.Common.{map, refl, sym, ap}
use Rattle.std.proofs.lemmas.List.{map-append}
use Rattle.std.specs.FinMap as fin
use Rattle.std.specs.FinMap.{nat_cmp-IsAntisymmetric}
use Rattle.std.specs.Cmp.{nat_cmp_total}
use Rattle.std.specs.Ordering.{nat_cmp}
use Rattle.fl_bench.specs.laws.Puts.{get_here, get_put}
use Rattle.fl_store.specs.Kept.{Kept}
use Rattle.fl_system.specs.declared.admission.Admission.{Admission}
use Rattle.fl_system.specs.declared.sent.Sent.{Sent}
use Rattle.fl_system.specs.State.{NodeState}
use Rattle.fl_system.specs.World.{World, KeptNode, went}
use Rattle.fl_system.specs.WorldSteps.{IsAt}
use Rattle.fl_one_worker_calls.specs.Worlds.{IsElsewhere, packet_in, packets_in}

pub at_number : (w : World) (number : ℕ) (n : NodeState) (k : Kept) (sent : List Sent)
    (admitted : List Admission)
    → IsAt (went w number n k sent admitted) number (record { node = n; kept = k })
at_number w number n k sent admitted =
    get_here nat_cmp_total w.nodes number (record { node = n; kept = k })

pub elsewhere : (w : World) (number : ℕ) (n : NodeState) (k : Kept) (sent : List Sent)
    (admitted : List Admission) → IsElsewhere number w (went w number n k sent admitted)
elsewhere w number n k sent admitted = record {
  desks = refl;
  others = λ other ne.
      elim (get_put nat_cmp_total nat_cmp-IsAntisymmetric w.nodes number
      (record { node = n; kept = k }) other) [ inl h ↦ absurd (ne h.0) | inr same ↦ same ];
}

pub elsewhere_still : {number : ℕ} {w mid w' : World} → IsElsewhere number w mid
    → IsElsewhere number mid w' → IsElsewhere number w w'
elsewhere_still h g = record {
  desks = g.desks ∙ h.desks;
  others = λ other ne. g.others other ne ∙ h.others other ne;
}

pub elsewhere_same : {number : ℕ} {w : World} → IsElsewhere number w w
elsewhere_same = record { desks = refl; others = λ other ne. refl }

pub packets_went : (w : World) (number : ℕ) (n : NodeState) (k : Kept) (sent : List Sent)
    (admitted : List Admission)
    → packets_in (went w number n k sent admitted) ≡ packets_in w ++ map packet_in sent
packets_went w number n k sent admitted = map-append packet_in w.packets sent
