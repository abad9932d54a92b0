-- Endpoints are ordered by number, totally, and only equal ones tie.
use Rattle.std.proofs.Common.{◌≡◌, ℕ, ◌<◌, ◌≤◌}
use mathlib.Core.HLevel.{Σ_prop_path}
use Rattle.std.specs.Coded.{Coded, ×_prop, le_prop}
use Rattle.std.specs.Cmp.{IsTotalOrder, nat_cmp_total}
use Rattle.std.specs.FinSet.{IsAntisymmetric}
use Rattle.std.specs.declared.cmp.Ordering.{Ordering}
use Rattle.std.specs.Ordering.{nat_cmp}
use Rattle.std.proofs.lemmas.Cmp.{on_total}
use Rattle.std.proofs.lemmas.Map.Lookups.{exact_unsigned}
use Rattle.fl_labels.specs.contracts.endpoint.Endpoint as endpoints_row
use Rattle.fl_labels.specs.declared.endpoint.Endpoint.{Endpoint}

abbrev pub coded_endpoint : Coded Endpoint
coded_endpoint = (endpoints_row.the_row).coded

-- by number
abbrev pub endpoint_cmp : Endpoint → Endpoint → Ordering
endpoint_cmp a b = nat_cmp a.number b.number

pub endpoint_total : IsTotalOrder endpoint_cmp
endpoint_total = on_total (λ e. e.number) nat_cmp_total

-- endpoints of equal numbers are equal
pub same_endpoint : (a b : Endpoint) → a.number ≡ b.number → a ≡ b
same_endpoint a b p =
    let parts : ◌≡◌ {A = (n : ℕ) × (0 < n × n ≤ 64)} (a.number, a.number_in_range) (b.number, b.number_in_range)
    = Σ_prop_path (λ n. ×_prop le_prop le_prop) p in
    λ i. record { number = (parts i).0; number_in_range = (parts i).1 }

pub endpoint_exact : IsAntisymmetric endpoint_cmp
endpoint_exact a b h = same_endpoint a b (exact_unsigned a.number b.number h)
