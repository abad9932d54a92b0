-- Process identifiers are totally ordered, and only equal ones tie.
use Rattle.std.proofs.Common.{◌≡◌, ℕ, ◌<◌, ◌^◌, ap}
use mathlib.Core.HLevel.{Σ_prop_path}
use Rattle.std.specs.Coded.{Coded, ×_prop, le_prop}
use Rattle.std.specs.Cmp.{IsTotalOrder, nat_cmp_total}
use Rattle.std.specs.FinSet.{IsAntisymmetric}
use Rattle.std.specs.Ordering.{nat_cmp, ordering_then}
use Rattle.std.proofs.lemmas.Cmp.{then_total, on_total}
use Rattle.std.proofs.lemmas.Map.Lookups.{exact_unsigned, exact_pairs}
use Rattle.fl_labels.specs.contracts.pid.Pid as pids_row
use Rattle.fl_labels.specs.declared.pid.Pid.{Pid}
use Rattle.fl_labels.specs.Pid.{pid_cmp}

abbrev pub coded_pid : Coded Pid
coded_pid = (pids_row.the_row).coded

pub pid_total : IsTotalOrder pid_cmp
pid_total =
    then_total (on_total (λ p. p.node) nat_cmp_total)
    (then_total (on_total (λ p. p.boot) nat_cmp_total) (on_total (λ p. p.serial) nat_cmp_total))

-- process identifiers of equal parts are equal
pub same_pid : (a b : Pid) → a.node ≡ b.node → a.boot ≡ b.boot → a.serial ≡ b.serial → a ≡ b
same_pid a b p q r =
    let parts : ◌≡◌ {A = (f : ℕ × (ℕ × ℕ))
    × ((0 < f.0 × f.0 < 2 ^ 32) × ((0 < f.1.0 × f.1.0 < 2 ^ 32) × (0 < f.1.1 × f.1.1 < 2 ^ 32)))}
    ((a.node, (a.boot, a.serial)), (a.node_in_range, (a.boot_in_range, a.serial_in_range)))
    ((b.node, (b.boot, b.serial)), (b.node_in_range, (b.boot_in_range, b.serial_in_range)))
    = Σ_prop_path (λ f. ×_prop (×_prop le_prop le_prop) (×_prop (×_prop le_prop le_prop) (×_prop le_prop le_prop)))
    (λ i. (p i, (q i, r i))) in
    λ i. record {
      node = (parts i).0.0;
      boot = (parts i).0.1.0;
      serial = (parts i).0.1.1;
      node_in_range = (parts i).1.0;
      boot_in_range = (parts i).1.1.0;
      serial_in_range = (parts i).1.1.1;
    }

pub pid_exact : IsAntisymmetric pid_cmp
pid_exact a b h =
    let parts = exact_pairs nat_cmp (λ (x : ℕ × ℕ) (y : ℕ × ℕ). ordering_then (nat_cmp x.0 y.0) (nat_cmp x.1 y.1))
    exact_unsigned (exact_pairs nat_cmp nat_cmp exact_unsigned exact_unsigned)
    (a.node, (a.boot, a.serial)) (b.node, (b.boot, b.serial)) h in
    same_pid a b (ap (λ (p : ℕ × (ℕ × ℕ)). p.0) parts)
    (ap (λ (p : ℕ × (ℕ × ℕ)). p.1.0) parts) (ap (λ (p : ℕ × (ℕ × ℕ)). p.1.1) parts)
