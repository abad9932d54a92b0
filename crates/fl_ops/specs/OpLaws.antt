-- Operations are totally ordered, and only equal ones tie.
use Rattle.std.specs.Prelude.{◌≡◌, ℕ, List, refl, slice_index, drop, length}
use Rattle.std.proofs.Common.{ap}
use Rattle.std.proofs.Math.Nat.{ℕ_set}
use mathlib.Core.HLevel.{Σ_prop_path}
use Rattle.std.specs.Cmp.{IsTotalOrder, IsPartialOrder, IsEquivalence, IsPartialEquivalence, eq_by_cmp_equiv, partial_equiv_from_equiv, po}
use Rattle.std.specs.FinMap.{IsAntisymmetric, slice_cmp-IsAntisymmetric, nat_cmp-IsAntisymmetric}
use Rattle.std.specs.Ordering.{ordering_then, eq_by_cmp, as_partial_cmp}
use Rattle.std.specs.declared.cmp.Ordering.{Ordering}
use Rattle.std.specs.declared.cmp.Ordering.TheVariants.{Less, Equal, Greater}
use Rattle.std.specs.Coded.{Coded}
use Rattle.std.proofs.lemmas.Cmp.{then_total, on_total, nat_list_cmp_total}
use Rattle.fl_labels.specs.declared.cap.Cap.{Cap}
use Rattle.fl_labels.specs.declared.cap.Cap.TheVariants.{Plus, Minus, Use, Grow}
use Rattle.fl_labels.specs.Cap.{cap_name, cap_rank}
use Rattle.fl_labels.specs.NameOrder.{name_total, name_exact, same_name}
use Rattle.fl_ops.specs.contracts.op.Op as ops_row
use Rattle.fl_ops.specs.declared.op.Policy.{Policy}
use Rattle.fl_ops.specs.declared.op.Policy.TheVariants.{Export, Read, Integrity}
use Rattle.fl_ops.specs.declared.op.Body.{Body}
use Rattle.fl_ops.specs.declared.op.Body.TheVariants.{MakeTag, MakeGroup, Put, MakeLogin, Open}
use Rattle.fl_ops.specs.declared.op.Op.{Op}
use Rattle.fl_ops.specs.declared.digest.Digest.{Digest}
use Rattle.fl_ops.specs.Bytes.{policy_byte}
use Rattle.fl_ops.specs.OpOrder.{body_key, op_cmp}

abbrev pub coded_op : Coded Op
coded_op = (ops_row.the_row).coded

pub op_total : IsTotalOrder op_cmp
op_total = then_total (on_total (λ o. o.name) name_total) (on_total (λ o. body_key o.body) nat_list_cmp_total)

-- capabilities of one kind and one name are equal
pub cap_same : (a b : Cap) → cap_rank a ≡ cap_rank b → cap_name a ≡ cap_name b → a ≡ b
cap_same (Plus a) (Plus b) e k = ap Plus k
cap_same (Minus a) (Minus b) e k = ap Minus k
cap_same (Use a) (Use b) e k = ap Use k
cap_same (Grow a) (Grow b) e k = ap Grow k
cap_same a b e k = absurd (cc)

-- digests of equal bytes are equal
pub same_digest : (a b : Digest) → a.bytes ≡ b.bytes → a ≡ b
same_digest a b e =
    let parts : ◌≡◌ {A = (bytes : List ℕ) × (length bytes ≡ 32)} (a.bytes, a.sized) (b.bytes, b.sized)
    = Σ_prop_path (λ bytes. ℕ_set _ _) e in
    λ i. record { bytes = (parts i).0; sized = (parts i).1 }

policy_same : (p q : Policy) → policy_byte p ≡ policy_byte q → p ≡ q
policy_same Export Export e = refl
policy_same Read Read e = refl
policy_same Integrity Integrity e = refl
policy_same p q e = absurd (cc)

at : ℕ → List ℕ → ℕ
at i l = slice_index l i

body_same : (a b : Body) → body_key a ≡ body_key b → a ≡ b
unfolding at
body_same (MakeTag p) (MakeTag q) e = ap MakeTag (policy_same p q (ap (at 1) e))
body_same MakeGroup MakeGroup e = refl
body_same (Put g c) (Put h d) e =
    let group = same_name g h (ap (at 1) e) (ap (at 2) e) in
    let cap = cap_same c d (ap (at 3) e) (same_name (cap_name c) (cap_name d) (ap (at 4) e) (ap (at 5) e)) in
    λ i. Put (group i) (cap i)
body_same (MakeLogin c d) (MakeLogin c' d') e =
    let cap = cap_same c c' (ap (at 1) e) (same_name (cap_name c) (cap_name c') (ap (at 2) e) (ap (at 3) e)) in
    let digest = same_digest d d' (ap (drop 4) e) in
    λ i. MakeLogin (cap i) (digest i)
body_same (Open g) (Open h) e = ap Open (same_name g h (ap (at 1) e) (ap (at 2) e))
body_same a b e = absurd (cc)

level : (o p : Ordering) → ordering_then o p ≡ Equal → (o ≡ Equal) × (p ≡ Equal)
level Less p e = absurd (cc)
level Equal p e = (refl, e)
level Greater p e = absurd (cc)

pub op_exact : IsAntisymmetric op_cmp
op_exact a b h =
    let parts = level _ _ h in
    let name = name_exact a.name b.name parts.0 in
    let body = body_same a.body b.body (slice_cmp-IsAntisymmetric nat_cmp-IsAntisymmetric _ _ parts.1) in
    λ i. record { name = name i; body = body i }

pub op_equivalence : IsEquivalence (eq_by_cmp op_cmp)
op_equivalence = eq_by_cmp_equiv op_total

pub op_partial_equivalence : IsPartialEquivalence (eq_by_cmp op_cmp)
op_partial_equivalence = partial_equiv_from_equiv op_equivalence

pub op_partial : IsPartialOrder (eq_by_cmp op_cmp) (as_partial_cmp op_cmp)
op_partial = po op_total (λ _ _. refl)
