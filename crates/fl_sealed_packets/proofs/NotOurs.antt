-- Which names of a window's spans are a node's own and not saved, span by span.
use Rattle.std.proofs.Common.{◌≡◌, ◌≢◌, ℕ, ◌+◌, ◌<◌, ◌≤◌, inl, inr, true, List, length, get_or, refl, sym, ap, subst, ◌∙◌, arith, Less, None}
use Rattle.std.specs.Cmp.{tied_itself}
use Rattle.std.specs.List.{Contains, list_any}
use Rattle.std.specs.List.Sorted.{IsStrictlySortedBy}
use Rattle.std.proofs.lemmas.Bool.{cases_lt}
use Rattle.std.proofs.lemmas.List.{get_or_default}
use Rattle.std.proofs.lemmas.List.Elements.{Contains-get_or}
use Rattle.std.proofs.lemmas.List.Folds.{Any-from_list_any, list_any_at}
use Rattle.std.proofs.lemmas.Map.Keys.{Less-from_sorted}
use Rattle.fl_labels.specs.SetBy.{SetBy, In}
use Rattle.fl_labels.specs.declared.name.Name.{Name}
use Rattle.fl_labels.specs.laws.Rising.{turned_back}
use Rattle.fl_ops.specs.declared.op.Op.{Op}
use Rattle.fl_ops.specs.OpLaws.{op_total}
use Rattle.fl_ops.specs.OpOrder.{op_cmp}
use Rattle.fl_opset.specs.Catching.{HaveNoClash}
use Rattle.fl_opset.specs.Rank.{name_rank, last_rank}
use Rattle.fl_opset.specs.Spans.{in_span, fit}
use Rattle.fl_opset.specs.declared.intervals.Intervals.{Intervals}
use Rattle.fl_opset.specs.declared.span.Span.{Span}
use Rattle.fl_opset.specs.laws.ByRank.{rank_less, rank_exact}
use Rattle.fl_opset.specs.laws.Fits.{bounds}
use Rattle.fl_opset.proofs.Walk.{gaps_rise}
use Rattle.fl_gossip.specs.Meeting.{FindsLeast, IsLeastOf}
use Rattle.fl_sealed_packets.specs.Ours.{IsNotOurs}
use Rattle.fl_sealed_packets.specs.parts.Rows.{IsMissing, RiseByNumber}
use Rattle.fl_sealed_packets.proofs.Rows.{in_it, not_less}

-- the operations of one node, of which no two have one name
module _ (number : ℕ) (saved : SetBy op_cmp) (single : HaveNoClash (In saved) (In saved)) (ops : List Op)
    (up : IsStrictlySortedBy op_cmp ops) (only : (op : Op) → Contains ops op → In saved op × (op.name.node ≡ number)) where
  pub numbers_rise : RiseByNumber ops
  numbers_rise = record {
    rise = λ i j d before inside.
        let x = get_or ops i d in
        let y = get_or ops j d in
        let here = only x (Contains-get_or ops i d (omega arith)) in
        let there = only y (Contains-get_or ops j d inside) in
        let less : op_cmp x y ≡ Less = Less-from_sorted op_cmp ops i j d up before inside in
        elim (cases_lt x.name.seq y.name.seq) [
          | inl lower ↦ lower
          | inr not_lower ↦ absurd (above x y here.0 there.0 (omega (arith, here.1, there.1)) less)
        ];
  }
    where
      above : (x y : Op) → In saved x → In saved y → name_rank y.name ≤ name_rank x.name → op_cmp x y ≢ Less
      above x y here there le less = elim (cases_lt (name_rank y.name) (name_rank x.name)) [
        | inl lower ↦
            let by_name = rank_less y.name x.name lower in
            let back : op_cmp y x ≡ Less = rw by_name refl in
            let greater = turned_back op_total y x back in
            cc
        | inr not_lower ↦
            let same = single x y here there (rank_exact x.name y.name (omega arith)) in
            let tie = tied_itself op_total y in
            let e : op_cmp y y ≡ Less = ap (λ op. op_cmp op y) (sym same) ∙ less in
            cc
      ]

-- the spans so far have no name that is not ours
abbrev pub NoneSoFar : ℕ → SetBy op_cmp → Intervals → List Span → ℕ → Type 0
NoneSoFar number saved window spans i =
    (k : ℕ) (d : Span) (name : Name) → k < i → in_span (get_or spans k d) name ≡ true
    → ¬ IsNotOurs number saved window name

module _ (number : ℕ) (saved : SetBy op_cmp) (window : Intervals) (spans : List Span) (same : spans ≡ window.spans)
    (i : ℕ) (x : Span) (inside : i < length spans) (at : x ≡ get_or spans i x) where
  item : (k : ℕ) (d : Span) → k ≡ i → get_or spans k d ≡ x
  item k d is = ap (λ n. get_or spans n d) is ∙ get_or_default spans i d x inside ∙ sym at

  pub one_more : NoneSoFar number saved window spans i → ((name : Name) → in_span x name ≡ true → ¬ IsNotOurs number saved window name)
      → NoneSoFar number saved window spans (i + 1)
  one_more so here k d name low held = elim (cases_lt k i) [
    | inl before ↦ so k d name before held
    | inr last ↦ here name (subst (λ (s : Span). in_span s name ≡ true) (item k d (omega arith)) held)
  ]

  pub of_another : x.first.node ≢ number → (name : Name) → in_span x name ≡ true → ¬ IsNotOurs number saved window name
  of_another other name held n = other ((in_it x name held).node ∙ n.own)

  module _ (ops : List Op) (only : (op : Op) → Contains ops op → In saved op × (op.name.node ≡ number))
      (all : (op : Op) → In saved op → op.name.node ≡ number → Contains ops op) where
    missing : (name : Name) → in_span x name ≡ true → IsNotOurs number saved window name → IsMissing x ops name
    missing name held n = record {
      held = held;
      unsaved = λ named. n.unsaved (named.0, (only named.0 named.1).0, named.2);
    }

    pub none_here : FindsLeast (IsMissing x ops) None → (name : Name) → in_span x name ≡ true → ¬ IsNotOurs number saved window name
    none_here none name held n = none name (missing name held n)

    pub least_here : x.first.node ≡ number → NoneSoFar number saved window spans i → (name : Name) → IsLeastOf (IsMissing x ops) name
        → IsLeastOf (IsNotOurs number saved window) name
    least_here own so name found =
        let held = found.holds.held in
        let node : name.node ≡ number = sym (in_it x name held).node ∙ own in
        record {
          holds = record {
            own = node;
            held = list_any_at (λ s. in_span s name) window.spans i x (subst (λ l. i < length l) same inside)
                (subst (λ (s : Span). in_span s name ≡ true) (at ∙ ap (λ l. get_or l i x) same) held);
            unsaved = λ named. found.holds.unsaved (named.0, all named.0 named.1 (ap (λ (n : Name). n.node) named.2 ∙ node), named.2);
          };
          least = λ other n less.
              let there = Any-from_list_any (λ s. in_span s other) spans (ap (list_any (λ s. in_span s other)) same ∙ n.held) in
              let j = there.0 in
              let s = there.1 in
              let holds : in_span (get_or spans j s) other ≡ true = ap (λ t. in_span t other) there.3 ∙ there.4 in
              elim (cases_lt j i) [
                | inl before ↦ so j s other before holds n
                | inr after ↦ elim (cases_lt i j) [
                  | inr now ↦ found.least other (missing other (subst (λ (t : Span). in_span t other ≡ true) (item j s (omega arith)) holds) n) less
                  | inl later ↦
                      let fits = ap (fit (name_rank window.from) (name_rank window.to)) same ∙ window.fitting in
                      let gap = gaps_rise (name_rank window.from) (name_rank window.to) spans fits i j s later there.2 in
                      let low = (bounds (name_rank (get_or spans j s).first) (name_rank other) (last_rank (get_or spans j s)) holds).0 in
                      let high = (bounds (name_rank x.first) (name_rank name) (last_rank x) held).1 in
                      not_less other name (omega (arith, gap, low, high, ap last_rank (item i s refl))) less
                ]
              ];
        }

pub none_at_all : (number : ℕ) (saved : SetBy op_cmp) (window : Intervals) (spans : List Span) → spans ≡ window.spans → (i : ℕ) → length spans ≤ i
    → NoneSoFar number saved window spans i → FindsLeast (IsNotOurs number saved window) None
none_at_all number saved window spans same i done so name n =
    let there = Any-from_list_any (λ s. in_span s name) spans (ap (list_any (λ s. in_span s name)) same ∙ n.held) in
    so there.0 there.1 name (omega (arith, there.2)) (ap (λ s. in_span s name) there.3 ∙ there.4) n
