-- Laws of open endpoints: one is the least that is free, and offenders are ordered totally, where only equal ones tie.
use Rattle.std.proofs.Common.{◌≡◌, refl, ap, Option, Some, None}
use Rattle.std.specs.Cmp.{IsTotalOrder}
use Rattle.std.specs.FinSet.{IsAntisymmetric}
use Rattle.std.proofs.Math.Nat.{le_antisymm}
use Rattle.std.proofs.lemmas.Cmp.{then_total, on_total}
use Rattle.std.proofs.lemmas.Map.Keys.{le_from_not_gt}
use Rattle.std.proofs.lemmas.Map.Lookups.{exact_pairs}
use Rattle.fl_labels.specs.Endpoint.{endpoint_cmp, endpoint_total, endpoint_exact, same_endpoint}
use Rattle.fl_labels.specs.Name.{name_cmp}
use Rattle.fl_labels.specs.NameOrder.{name_total, name_exact}
use Rattle.fl_labels.specs.declared.endpoint.Endpoint.{Endpoint}
use Rattle.fl_mailbox.specs.Endpoints.{Table, IsLeastFree}
use Rattle.fl_mailbox.specs.Offenders.{offender_cmp}

pub one_least_free : (table : Table) (a b : Option Endpoint) → IsLeastFree table a → IsLeastFree table b → a ≡ b
one_least_free table None None h k = refl
one_least_free table None (Some b) h k = absurd (k.is.lacking (h.is b k.is.member))
one_least_free table (Some a) None h k = absurd (h.is.lacking (k.is a h.is.member))
one_least_free table (Some a) (Some b) h k = ap Some (same_endpoint a b (le_antisymm
    (le_from_not_gt a.number b.number (h.is.least b k.is.member k.is.lacking))
    (le_from_not_gt b.number a.number (k.is.least a h.is.member h.is.lacking))))

pub offender_total : IsTotalOrder offender_cmp
offender_total = then_total (on_total (λ x. x.endpoint) endpoint_total) (on_total (λ x. x.tag) name_total)

pub offender_exact : IsAntisymmetric offender_cmp
offender_exact a b h =
    let parts = exact_pairs endpoint_cmp name_cmp endpoint_exact name_exact (a.endpoint, a.tag) (b.endpoint, b.tag) h in
    λ i. record { endpoint = (parts i).0; tag = (parts i).1 }
