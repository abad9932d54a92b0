-- Names, spans and windows are equal where their ranks are; the names of a span.
use Rattle.std.proofs.Common.{◌≡◌, ◌⊎◌, inl, inr, ℕ, ◌+◌, ◌-◌, ◌*◌, ◌<◌, ◌≤◌, ◌^◌, true, List, length, arith, Less}
use mathlib.Core.HLevel.{Σ_prop_path}
use mathlib.Core.Bool.{Bool-set}
use Rattle.std.specs.Coded.{×_prop, le_prop}
use Rattle.std.specs.Ordering.{nat_cmp, ordering_then}
use Rattle.std.proofs.lemmas.Bool.{cases_lt}
use Rattle.std.proofs.lemmas.Bool.Decides.{nat_tests}
use Rattle.fl_labels.specs.Name.{name_cmp}
use Rattle.fl_labels.specs.NameOrder.{same_name}
use Rattle.fl_labels.specs.declared.name.Name.{Name}
use Rattle.fl_opset.specs.declared.span.Span.{Span}
use Rattle.fl_opset.specs.declared.intervals.Intervals.{Intervals}
use Rattle.fl_opset.specs.Rank.{name_rank, last_rank}
use Rattle.fl_opset.specs.Spans.{fit}

-- the two parts of a rank
pub parts_less : (m n i j : ℕ) → j < 4294967296 → m * 4294967296 + i < n * 4294967296 + j → (m < n) ⊎ ((m ≡ n) × (i < j))
parts_less m n i j short h = elim (cases_lt m n) [
  | inl less ↦ inl less
  | inr more ↦ inr (omega arith, omega arith)
]

pub parts_same : (m n i j : ℕ) → i < 4294967296 → j < 4294967296 → m * 4294967296 + i ≡ n * 4294967296 + j → (m ≡ n) × (i ≡ j)
parts_same m n i j short small h = (omega arith, omega arith)

-- of two that are next to each other
pub parts_next : (m n i j : ℕ) → i < 4294967296 → 0 < j → j < 4294967296 → m * 4294967296 + i ≤ n * 4294967296 + j → n * 4294967296 + j ≤ m * 4294967296 + i + 1 → (m ≡ n) × (i ≤ j)
parts_next m n i j short some small low high = (omega arith, omega arith)

pub rank_exact : (a b : Name) → name_rank a ≡ name_rank b → a ≡ b
rank_exact a b h =
    let p = parts_same (a.node - 1) (b.node - 1) a.seq b.seq a.seq_in_range.1 b.seq_in_range.1 h in
    same_name a b (omega (arith, p.0, a.node_in_range.0, b.node_in_range.0)) p.1

less_parts : (m n i j : ℕ) → (m < n) ⊎ ((m ≡ n) × (i < j)) → ordering_then (nat_cmp m n) (nat_cmp i j) ≡ Less
less_parts m n i j (inl h) = grind (arith, nat_tests)
less_parts m n i j (inr h) = let a = h.0 in let b = h.1 in grind (arith, nat_tests)

pub rank_less : (a b : Name) → name_rank a < name_rank b → name_cmp a b ≡ Less
rank_less a b h =
    less_parts a.node b.node a.seq b.seq (elim (parts_less (a.node - 1) (b.node - 1) a.seq b.seq b.seq_in_range.1 h) [
      | inl less ↦ inl (omega arith)
      | inr same ↦ inr (omega (arith, same.0, a.node_in_range.0, b.node_in_range.0), same.1)
    ])

pub same_span : (s t : Span) → name_rank s.first ≡ name_rank t.first → last_rank s ≡ last_rank t → s ≡ t
same_span s t p q =
    let first = rank_exact s.first t.first p in
    let last = parts_same (s.first.node - 1) (t.first.node - 1) s.last t.last s.last_in_range t.last_in_range q in
    let parts : ◌≡◌ {A = (f : Name × ℕ) × ((f.0.seq ≤ f.1) × (f.1 < 2 ^ 32))} ((s.first, s.last), (s.rises, s.last_in_range)) ((t.first, t.last), (t.rises, t.last_in_range)) = Σ_prop_path (λ f. ×_prop le_prop le_prop) (λ i. (first i, last.1 i)) in
    λ i. record { first = (parts i).0.0; last = (parts i).0.1; rises = (parts i).1.0; last_in_range = (parts i).1.1 }

-- each rank of a span is that of a name
pub name_at : (s : Span) (k : ℕ) → name_rank s.first ≤ k → k ≤ last_rank s → (n : Name) × (name_rank n ≡ k)
name_at s k low high =
    let seq = s.first.seq + (k - name_rank s.first) in
    let small : seq < 2 ^ 32 = omega (arith, s.last_in_range) in
    let some : 0 < seq = omega (arith, s.first.seq_in_range.0) in
    (record { node = s.first.node; seq = seq; node_in_range = s.first.node_in_range; seq_in_range = (some, small) }, omega arith)

-- windows of equal ends and spans are equal
pub same_window : (a b : Intervals) → a.from ≡ b.from → a.to ≡ b.to → a.spans ≡ b.spans → a ≡ b
same_window a b p q r =
    let parts : ◌≡◌ {A = (f : Name × Name × List Span) × ((name_rank f.0 ≤ name_rank f.1) × (length f.2 ≤ 512) × (fit (name_rank f.0) (name_rank f.1) f.2 ≡ true))}
    ((a.from, a.to, a.spans), (a.ordered, a.few, a.fitting)) ((b.from, b.to, b.spans), (b.ordered, b.few, b.fitting))
    = Σ_prop_path (λ f. hlevel (le_prop, Bool-set)) (λ i. (p i, q i, r i)) in
    λ i. record { from = (parts i).0.0; to = (parts i).0.1; spans = (parts i).0.2; ordered = (parts i).1.0; few = (parts i).1.1; fitting = (parts i).1.2 }
