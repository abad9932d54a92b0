-- Capabilities by their places and bits.
use Rattle.std.specs.Prelude.{◌≡◌, ◌⊎◌, ◌↔◌, Bool, true, false, ℕ, zero, suc, ◌+◌, ◌-◌, ◌*◌, ◌/◌, ◌%◌, ◌^◌, ◌<◌, min, max, refl, bit_and, bit_or}
use Rattle.std.proofs.Common.{inl, inr, sym, ap, subst, ◌∙◌, arith, rules}
use Rattle.std.specs.BTreeMap.{is_at}
use Rattle.std.specs.Cmp.{IsTotalOrder, Equal-is, nat_cmp_total, tied_itself}
use Rattle.std.specs.Cmp.Rules.{comparing}
use Rattle.std.specs.FinSet.{IsAntisymmetric}
use Rattle.std.specs.Coded.{×_prop, le_prop}
use mathlib.Core.HLevel.{Σ_prop_path}
use Rattle.std.specs.Int.{bit_at, w32}
use Rattle.std.specs.Int.Bits.{or_zero_l}
use Rattle.std.specs.Ordering.{nat_cmp, is_eq, eq_by_cmp}
use Rattle.std.proofs.lemmas.Bool.{false≢true}
use Rattle.std.proofs.lemmas.Cmp.{then_total, on_total}
use Rattle.std.proofs.lemmas.Map.Lookups.{exact_unsigned, exact_pairs}
use Rattle.std.proofs.lemmas.Nat.{mod_below}
use Rattle.std.proofs.lemmas.Nat.Bits.{bit_at-zero, bit_at_and, bit_at_or, bit_at_not, bit_at_set_same, bit_at_set_other, bit_at-lt}
use Rattle.fl_labels.specs.Cap.{cap_name, cap_rank}
use Rattle.fl_labels.specs.NameOrder.{same_name}
use Rattle.fl_labels.specs.declared.name.Name.{Name}
use Rattle.fl_labels.specs.declared.cap.Cap.{Cap}
use Rattle.fl_labels.specs.declared.cap.Cap.TheVariants.{Plus, Minus, Use, Grow}
use Rattle.fl_closure.specs.contracts.place.PlacePartialEq.TheImpl as places
use Rattle.fl_closure.specs.declared.place.Place.{Place}
use Rattle.fl_closure.specs.declared.block.Block.{Block}
use Rattle.fl_closure.specs.parts.Block.{place_cmp, place_of, bit_of, Marks, IsIn}

-- ---- one bit of two

one_of_max : (x y : ℕ) → max x y ≡ 1 → (x ≡ 1) ⊎ (y ≡ 1)
one_of_max zero y h = inr (omega arith)
one_of_max (suc zero) y h = inl refl
one_of_max (suc (suc x)) y h = absurd (omega arith)

pub or_bit : (a b i : ℕ) → (bit_at (bit_or a b) i ≡ 1) ↔ ((bit_at a i ≡ 1) ⊎ (bit_at b i ≡ 1))
or_bit a b i = (
  λ h. one_of_max (bit_at a i) (bit_at b i) (sym (bit_at_or a b i) ∙ h),
  λ h. bit_at_or a b i ∙ elim h [ inl e ↦ by_left (bit_at a i) (bit_at b i) e (bit_at-lt b i) | inr e ↦ by_right (bit_at a i) (bit_at b i) e (bit_at-lt a i) ],
)
  where
    by_left : (x y : ℕ) → x ≡ 1 → y < 2 → max x y ≡ 1
    by_left x y e l = omega arith

    by_right : (x y : ℕ) → y ≡ 1 → x < 2 → max x y ≡ 1
    by_right x y e l = omega arith

both_of_min : (x y : ℕ) → x < 2 → min x (1 - y) ≡ 1 → (x ≡ 1) × ¬ (y ≡ 1)
both_of_min x y l h = (omega arith, λ e. omega arith)

min_of_both : (x y : ℕ) → y < 2 → x ≡ 1 → ¬ (y ≡ 1) → min x (1 - y) ≡ 1
min_of_both x zero l e n = omega arith
min_of_both x (suc zero) l e n = absurd (n refl)
min_of_both x (suc (suc y)) l e n = absurd (omega arith)

-- `a & !b`
pub but_bit : (a b i : ℕ) → b < 2 ^ 32 → i < 32
    → (bit_at (bit_and a (2 ^ 32 - 1 - b)) i ≡ 1) ↔ ((bit_at a i ≡ 1) × ¬ (bit_at b i ≡ 1))
but_bit a b i small within =
    let is : bit_at (bit_and a (2 ^ 32 - 1 - b)) i ≡ min (bit_at a i) (1 - bit_at b i) = bit_at_and a (2 ^ 32 - 1 - b) i ∙ ap (min (bit_at a i)) (bit_at_not w32 b i small within) in (
      λ h. both_of_min (bit_at a i) (bit_at b i) (bit_at-lt a i) (sym is ∙ h),
      λ h. is ∙ min_of_both (bit_at a i) (bit_at b i) (bit_at-lt b i) h.0 h.1,
    )

-- ---- places

pub place_total : IsTotalOrder place_cmp
place_total = then_total (on_total (λ p. p.part) nat_cmp_total) (on_total (λ p. p.node) nat_cmp_total)

pub same_place : (a b : Place) → a.node ≡ b.node → a.part ≡ b.part → a ≡ b
same_place a b p q =
    let parts : ◌≡◌ {A = (f : ℕ × ℕ) × (0 < f.0 × f.0 < 2 ^ 32)}
    ((a.node, a.part), a.node_in_range) ((b.node, b.part), b.node_in_range)
    = Σ_prop_path (λ f. ×_prop le_prop le_prop) (λ i. (p i, q i)) in
    λ i. record {
      node = (parts i).0.0;
      part = (parts i).0.1;
      node_in_range = (parts i).1;
    }

pub place_exact : IsAntisymmetric place_cmp
place_exact a b h =
    let parts = exact_pairs nat_cmp nat_cmp exact_unsigned exact_unsigned (a.part, a.node) (b.part, b.node) h in
    same_place a b (ap (λ (p : ℕ × ℕ). p.1) parts) (ap (λ (p : ℕ × ℕ). p.0) parts)

pub place_tied : (a b : Place) → places.ghosts.eq a b ≡ eq_by_cmp place_cmp a b
place_tied a b = search (comparing, rules)

pub same_by_eq : (a b : Place) (r : Bool) → r ≡ places.ghosts.eq a b → r ≡ true → a ≡ b
same_by_eq a b r e h = place_exact a b ((Equal-is (place_cmp a b)).0 (sym (place_tied a b) ∙ sym e ∙ h))

pub place_or : (p q : Place) → (q ≡ p) ⊎ ¬ (q ≡ p)
place_or p q = by_test (is_at (place_cmp p) q) refl
  where
    by_test : (b : Bool) → is_at (place_cmp p) q ≡ b → (q ≡ p) ⊎ ¬ (q ≡ p)
    by_test true e = inl (sym (place_exact p q ((Equal-is (place_cmp p q)).0 e)))
    by_test false e = inr (λ same. false≢true (sym e ∙ ap (λ r. is_eq (place_cmp p r)) same ∙ ap is_eq (tied_itself place_total p)))

pub at_itself : (p : Place) → is_at (place_cmp p) p ≡ true
at_itself p = ap is_eq (tied_itself place_total p)

pub at_other : (p q : Place) → ¬ (q ≡ p) → is_at (place_cmp p) q ≡ false
at_other p q n = by_test (is_at (place_cmp p) q) refl
  where
    by_test : (b : Bool) → is_at (place_cmp p) q ≡ b → is_at (place_cmp p) q ≡ false
    by_test true e = absurd (n (sym (place_exact p q ((Equal-is (place_cmp p q)).0 e))))
    by_test false e = e

-- ---- capabilities

pub bit_below : (c : Cap) → bit_of c < 32
unfolding bit_of
bit_below c = mod_below (cap_name c).seq 32 (omega arith)

ranked : (c : Cap) → (0 < cap_rank c) × (cap_rank c < 5)
ranked (Plus n) = (omega arith, omega arith)
ranked (Minus n) = (omega arith, omega arith)
ranked (Use n) = (omega arith, omega arith)
ranked (Grow n) = (omega arith, omega arith)

by_kind : (c d : Cap) → cap_name c ≡ cap_name d → cap_rank c ≡ cap_rank d → c ≡ d
by_kind (Plus a) (Plus b) e k = ap Plus e
by_kind (Minus a) (Minus b) e k = ap Minus e
by_kind (Use a) (Use b) e k = ap Use e
by_kind (Grow a) (Grow b) e k = ap Grow e
by_kind a b e k = absurd (omega arith)

same_parts : (s t r k : ℕ) → r < 5 → k < 5 → s / 32 * 32 + r ≡ t / 32 * 32 + k → s % 32 ≡ t % 32 → (s ≡ t) × (r ≡ k)
same_parts s t r k low small e f = (omega arith, omega arith)

pub same_cap_at : (c d : Cap) → place_of c ≡ place_of d → bit_of c ≡ bit_of d → c ≡ d
unfolding place_of bit_of
same_cap_at c d e f =
    let parts = same_parts (cap_name c).seq (cap_name d).seq (cap_rank c) (cap_rank d) (ranked c).1 (ranked d).1 (ap (λ (p : Place). p.part) e) f in
    by_kind c d (same_name (cap_name c) (cap_name d) (ap (λ (p : Place). p.node) e) parts.0) parts.1

zero_one : ◌≡◌ {A = ℕ} 0 1 → ⊥
zero_one e = omega arith

-- the bit of one capability alone
pub only_in : (cap c : Cap) (one : Block) → one.place ≡ place_of cap → one.bits ≡ 1 * 2 ^ bit_of cap % 2 ^ 32
    → IsIn one c ↔ (c ≡ cap)
only_in cap c one at is = (
  λ h. same_cap_at c cap (h.0 ∙ at) (by_bit (nat_or (bit_of cap) (bit_of c)) (subst (λ b. Marks b c) is h.1)),
  λ e. (ap place_of e ∙ sym at, subst (λ x. Marks one.bits x) (sym e) (subst (λ b. Marks b cap) (sym is) same)),
)
  where
    nat_or : (m n : ℕ) → (n ≡ m) ⊎ ¬ (n ≡ m)
    nat_or zero zero = inl refl
    nat_or zero (suc n) = inr (λ e. omega arith)
    nat_or (suc m) zero = inr (λ e. omega arith)
    nat_or (suc m) (suc n) = elim (nat_or m n) [ inl e ↦ inl (ap suc e) | inr k ↦ inr (λ e. k (omega arith)) ]

    same : bit_at (1 * 2 ^ bit_of cap % 2 ^ 32) (bit_of cap) ≡ 1
    same = ap (λ n. bit_at n (bit_of cap)) (sym (or_zero_l (1 * 2 ^ bit_of cap % 2 ^ 32))) ∙ bit_at_set_same w32 0 (bit_of cap) (bit_below cap)

    other : (i : ℕ) → ¬ (i ≡ bit_of cap) → bit_at (1 * 2 ^ bit_of cap % 2 ^ 32) i ≡ 0
    other i n = ap (λ x. bit_at x i) (sym (or_zero_l (1 * 2 ^ bit_of cap % 2 ^ 32))) ∙ bit_at_set_other w32 0 (bit_of cap) (bit_below cap) i n ∙ bit_at-zero i

    by_bit : (bit_of c ≡ bit_of cap) ⊎ ¬ (bit_of c ≡ bit_of cap) → Marks (1 * 2 ^ bit_of cap % 2 ^ 32) c → bit_of c ≡ bit_of cap
    by_bit (inl e) h = e
    by_bit (inr n) h = absurd (zero_one (sym (other (bit_of c) n) ∙ h))

-- no bit is that of a capability
pub no_marks : (c : Cap) → ¬ Marks 0 c
no_marks c h = zero_one (sym (bit_at-zero (bit_of c)) ∙ h)

-- the group whose use has this bit at this place
used_part : (s p b : ℕ) → b < 32 → s / 32 * 32 + 3 ≡ p → s % 32 ≡ b → (p / 32 * 32 + b ≡ s) × (p % 32 ≡ 3)
used_part s p b low e f = (omega arith, omega arith)

part_used : (p b : ℕ) → b < 32 → p % 32 ≡ 3 → ((p / 32 * 32 + b) / 32 * 32 + 3 ≡ p) × ((p / 32 * 32 + b) % 32 ≡ b)
part_used p b low e = (omega arith, omega arith)

pub use_at : (name : Name) (p : Place) (b : ℕ) → b < 32 → place_of (Use name) ≡ p → bit_of (Use name) ≡ b
    → (p.node ≡ name.node) × (p.part / 32 * 32 + b ≡ name.seq) × (p.part % 32 ≡ 3)
unfolding place_of bit_of
use_at name p b low e f =
    let parts = used_part name.seq p.part b low (ap (λ (q : Place). q.part) e) f in
    (sym (ap (λ (q : Place). q.node) e), parts.0, parts.1)

pub at_use : (name : Name) (p : Place) (b : ℕ) → b < 32 → p.part % 32 ≡ 3 → name.node ≡ p.node → name.seq ≡ p.part / 32 * 32 + b
    → (place_of (Use name) ≡ p) × (bit_of (Use name) ≡ b)
unfolding place_of bit_of
at_use name p b low kind node seq =
    let parts = part_used p.part b low kind in
    (same_place _ p node (ap (λ s. s / 32 * 32 + 3) seq ∙ parts.0), ap (λ s. s % 32) seq ∙ parts.1)

pub marks_or : (bits : ℕ) (c : Cap) → Marks bits c ⊎ ¬ Marks bits c
marks_or bits c = by_bit (bit_at bits (bit_of c))
  where
    by_bit : (n : ℕ) → (n ≡ 1) ⊎ ¬ (n ≡ 1)
    by_bit zero = inr (λ e. omega arith)
    by_bit (suc zero) = inl refl
    by_bit (suc (suc n)) = inr (λ e. omega arith)
