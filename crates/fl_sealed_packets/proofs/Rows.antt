-- Operations of one node by their numbers, and which of a span's names they lack.
use Rattle.std.proofs.Common.{◌≡◌, ◌≢◌, ℕ, zero, suc, ◌+◌, ◌-◌, ◌<◌, ◌≤◌, inl, inr, true, false, ltb, List, [], ◌∷◌, length, get_or, drop, sym, ap, ◌∙◌, arith, Less}
use Rattle.std.specs.Cmp.{tied_itself}
use Rattle.std.specs.List.{All, AllWithin}
use Rattle.std.specs.List.Sorted.{IsPartitionedBy}
use Rattle.std.proofs.lemmas.Bool.{cases_lt}
use Rattle.std.proofs.lemmas.Bool.Decides.{nat_tests}
use Rattle.std.proofs.lemmas.List.{get_or_default, get_or-drop, length-drop}
use Rattle.std.proofs.lemmas.List.Elements.{Contains-get_or}
use Rattle.std.proofs.lemmas.List.Sorted.{IsPartitionedBy-ltb}
use Rattle.fl_labels.specs.declared.name.Name.{Name}
use Rattle.fl_labels.specs.Name.{name_cmp}
use Rattle.fl_labels.specs.NameOrder.{name_total, same_name}
use Rattle.fl_labels.specs.laws.Rising.{turned_back}
use Rattle.fl_ops.specs.declared.op.Op.{Op}
use Rattle.fl_ops.specs.Registry.{Listed}
use Rattle.fl_opset.specs.declared.span.Span.{Span}
use Rattle.fl_opset.specs.Rank.{name_rank, last_rank}
use Rattle.fl_opset.specs.Spans.{in_span}
use Rattle.fl_opset.specs.Windows.{IsName}
use Rattle.fl_opset.specs.laws.ByRank.{rank_exact, rank_less}
use Rattle.fl_opset.specs.laws.Fits.{bounds, within}
use Rattle.fl_gossip.specs.Meeting.{IsLeastOf}
use Rattle.fl_sealed_packets.specs.parts.Rows.{IsMissing, RiseByNumber}

-- ---- names

-- what is said of a name that a span has
pub record IsIn (s : Span) (n : Name) : Type 0 where
  pub node : s.first.node ≡ n.node
  pub low : s.first.seq ≤ n.seq
  pub high : n.seq ≤ s.last

pub in_it : (s : Span) (n : Name) → in_span s n ≡ true → IsIn s n
in_it s n held =
    let b = bounds (name_rank s.first) (name_rank n) (last_rank s) held in
    let node : s.first.node ≡ n.node = omega (arith, b.0, b.1, s.first.node_in_range.0, n.node_in_range.0, s.first.seq_in_range.1, s.last_in_range, n.seq_in_range.0, n.seq_in_range.1) in
    record { node = node; low = omega (arith, b.0, node); high = omega (arith, b.1, node) }

pub not_less : (a b : Name) → name_rank b ≤ name_rank a → name_cmp a b ≢ Less
not_less a b le less = elim (cases_lt (name_rank b) (name_rank a)) [
  | inl lower ↦ let greater = turned_back name_total b a (rank_less b a lower) in cc
  | inr not_lower ↦
      let same = rank_exact a b (omega arith) in
      let tie = tied_itself name_total b in
      let e : name_cmp b b ≡ Less = ap (λ n. name_cmp n b) (sym same) ∙ less in
      cc
]

-- ---- numbers

-- each number is as far above an earlier one at least as the places are apart
far : (ops : List Op) → RiseByNumber ops → (i j n : ℕ) (d : Op) → i + n ≡ j → j < length ops → (get_or ops i d).name.seq + n ≤ (get_or ops j d).name.seq
far ops up i j zero d e inside =
    let same : i ≡ j = omega arith in
    omega (arith, ap (λ k. (get_or ops k d).name.seq) same)
far ops up i j (suc n) d e inside =
    omega (arith, far ops up i (i + n) n d (omega arith) (omega arith), up.rise (i + n) j d (omega arith) inside)

module _ (ops : List Op) (up : RiseByNumber ops) (from : ℕ) (above : All (λ op. from ≤ op.name.seq) ops)
    (middle : ℕ) (x : Op) (inside : middle < length ops) where
  at_middle : (d : Op) → (get_or ops middle d).name.seq ≡ (get_or ops middle x).name.seq
  at_middle d = ap (λ (op : Op). op.name.seq) (get_or_default ops middle d x inside)

  -- where one is in its row, those before it are
  pub row_to : (get_or ops middle x).name.seq - from ≡ middle → (k : ℕ) (d : Op) → k < middle + 1 → (get_or ops k d).name.seq ≡ from + k
  row_to there k d low =
      omega (
        arith,
        there,
        at_middle d,
        above 0 d (omega arith),
        above middle d inside,
        far ops up 0 k k d (omega arith) (omega arith),
        far ops up k middle (middle - k) d (omega arith) inside,
      )

  -- where one is not, those behind it are not
  pub none_from : (get_or ops middle x).name.seq - from ≢ middle → (k : ℕ) (d : Op) → middle ≤ k → k < length ops → from + k < (get_or ops k d).name.seq
  none_from not_there k d high within =
      omega (
        arith,
        not_there,
        at_middle d,
        above 0 d (omega arith),
        above middle d inside,
        far ops up 0 middle middle d (omega arith) inside,
        far ops up middle k (k - middle) d (omega arith) within,
      )

-- The operations from the place on have this number and those behind it in a row, so many, and no others do.
pub record IsRow (ops : List Op) (first place row : ℕ) : Type 0 where
  pub inside : place + row ≤ length ops
  pub below : (k : ℕ) (d : Op) → k < place → (get_or ops k d).name.seq < first
  pub each : (k : ℕ) (d : Op) → place ≤ k → k < place + row → (get_or ops k d).name.seq + place ≡ first + k
  pub others : (k : ℕ) (d : Op) → place + row ≤ k → k < length ops → first + k < (get_or ops k d).name.seq + place

-- what a search for the first number finds
module _ (ops back : List Op) (place first : ℕ) (bound : place ≤ length ops) (cut : back ≡ drop place ops) where
  pub numbers_parted : RiseByNumber ops → IsPartitionedBy (λ op. ltb op.name.seq first) ops
  numbers_parted up = IsPartitionedBy-ltb (λ op. op.name.seq) ops first (λ i j d order inside. omega (arith, far ops up i j (j - i) d (omega arith) inside))

  behind : (k : ℕ) (d : Op) → get_or back k d ≡ get_or ops (place + k) d
  behind k d = ap (λ l. get_or l k d) cut ∙ get_or-drop place ops k d

  long : length back ≡ length ops - place
  long = ap length cut ∙ length-drop place ops

  not_below : (a b : ℕ) → ltb a b ≡ false → b ≤ a
  not_below a b h = grind (arith, nat_tests)

  is_below : (a b : ℕ) → ltb a b ≡ true → a < b
  is_below a b h = grind (arith, nat_tests)

  pub back_above : AllWithin (λ op. ltb op.name.seq first ≡ false) ops place (length ops) → All (λ op. first ≤ op.name.seq) back
  back_above above k d within =
      omega (arith, ap (λ (op : Op). op.name.seq) (behind k d), not_below _ first (above (place + k) d (omega arith) (omega (arith, long))))

  module _ (row : ℕ) (few : row ≤ length back) (each : (k : ℕ) (d : Op) → k < row → (get_or back k d).name.seq ≡ first + k)
      (others : (k : ℕ) (d : Op) → row ≤ k → k < length back → first + k < (get_or back k d).name.seq) where
    at_back : (k : ℕ) (d : Op) → place ≤ k → (get_or ops k d).name.seq ≡ (get_or back (k - place) d).name.seq
    at_back k d high =
        let same : place + (k - place) ≡ k = omega arith in
        ap (λ i. (get_or ops i d).name.seq) (sym same) ∙ ap (λ (op : Op). op.name.seq) (sym (behind (k - place) d))

    pub row_is : AllWithin (λ op. ltb op.name.seq first ≡ true) ops 0 place → IsRow ops first place row
    row_is below = record {
      inside = omega (arith, few, long);
      below = λ k d low. is_below _ first (below k d (omega arith) low);
      each = λ k d high low. omega (arith, at_back k d high, each (k - place) d (omega arith));
      others = λ k d high within. omega (arith, at_back k d (omega arith), others (k - place) d (omega arith) (omega (arith, long)));
    }

some_item : (ops : List Op) (k : ℕ) → k < length ops → Op
some_item [] k inside = absurd (omega arith)
some_item (op ∷ ops) k inside = op

-- which names of the span the operations have then
module _ (ops : List Op) (place row : ℕ) (s : Span) (r : IsRow ops s.first.seq place row)
    (own : All (λ op. op.name.node ≡ s.first.node) ops) where
  has : (n : Name) → s.first.node ≡ n.node → s.first.seq ≤ n.seq → n.seq < s.first.seq + row → IsName (Listed ops) n
  has n node low high =
      let k = place + (n.seq - s.first.seq) in
      let inside : k < length ops = omega (arith, r.inside) in
      let d = some_item ops k inside in
      let seq : (get_or ops k d).name.seq ≡ n.seq = omega (arith, r.each k d (omega arith) (omega arith)) in
      (get_or ops k d, Contains-get_or ops k d inside, same_name (get_or ops k d).name n (own k d inside ∙ node) seq)

  lacks : (n : Name) → n.seq ≡ s.first.seq + row → ¬ IsName (Listed ops) n
  lacks n seq named =
      let k = named.1.0 in
      let inside = named.1.1 in
      let d = named.0 in
      let here : (get_or ops k d).name.seq ≡ n.seq = ap (λ (op : Op). op.name.seq) named.1.2 ∙ ap (λ (m : Name). m.seq) named.2 in
      elim (cases_lt k place) [
        | inl before ↦ omega (arith, here, r.below k d before)
        | inr after ↦ elim (cases_lt k (place + row)) [
          | inl within ↦ omega (arith, here, r.each k d after within)
          | inr behind ↦ omega (arith, here, r.others k d behind inside)
        ]
      ]

  pub none_missing : s.last - s.first.seq < row → (n : Name) → ¬ IsMissing s ops n
  none_missing enough n m =
      let at = in_it s n m.held in
      m.unsaved (has n at.node at.low (omega (arith, at.high, s.rises)))

  pub first_missing : row ≤ s.last - s.first.seq → (n : Name) → n.node ≡ s.first.node → n.seq ≡ s.first.seq + row → IsLeastOf (IsMissing s ops) n
  first_missing few n node seq = record {
    holds = record {
      held = within (name_rank s.first) (name_rank n) (last_rank s) (omega (arith, node, seq)) (omega (arith, node, seq, s.rises));
      unsaved = lacks n seq;
    };
    least = λ other m less.
        let at = in_it s other m.held in
        elim (cases_lt other.seq n.seq) [
          | inl lower ↦ m.unsaved (has other at.node at.low (omega (arith, seq)))
          | inr not_lower ↦ not_less other n (omega (arith, node, at.node)) less
        ];
  }
