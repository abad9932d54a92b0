-- What a window of a summary lacks, the set that it tells of has not.
use Rattle.std.proofs.Common.{◌≡◌, ◌≢◌, ◌⊎◌, ◌<◌, ◌≤◌, ◌+◌, ◌-◌, ◌*◌, ◌^◌, ◌||◌, ◌&&◌, not, inl}
use Rattle.std.proofs.Common.{inr, ℕ, zero, suc}
use Rattle.std.proofs.Common.{Bool, true, false, cond, List, [], ◌∷◌, refl, sym, ap, subst, ◌∙◌}
use Rattle.std.proofs.Common.{arith}
use Rattle.std.specs.List.{Contains, count_by, flat_map, list_any}
use Rattle.std.proofs.lemmas.Bool.{cases_lt, true≢false}
use Rattle.std.proofs.lemmas.List.Elements.{Contains-append_cases}
use Rattle.std.proofs.lemmas.List.Sums.{sum_by-cons}
use Rattle.fl_labels.specs.NameOrder.{same_name}
use Rattle.fl_labels.specs.SetBy.{SetBy, In, members}
use Rattle.fl_labels.specs.declared.name.Name.{Name}
use Rattle.fl_ops.specs.OpOrder.{op_cmp}
use Rattle.fl_ops.specs.declared.op.Op.{Op}
use Rattle.fl_opset.specs.Rank.{name_rank, last_rank}
use Rattle.fl_opset.specs.Spans.{fit, in_span}
use Rattle.fl_opset.specs.Windows.{AreWindows, IsName, IsSpan, in_window, is_lacking}
use Rattle.fl_opset.specs.declared.intervals.Intervals.{Intervals}
use Rattle.fl_opset.specs.declared.span.Span.{Span}
use Rattle.fl_opset.specs.laws.Fits.{within, bounds, ends_above, fit_at}
use Rattle.fl_opset.specs.laws.Members.{Contains-cons, listed_member, member_listed}

pub none_in : {X P : Type 0} (x : X) → Contains [] x → P
none_in x (k, inside, at) = absurd (omega (arith, inside))

-- it is the first, or among the rest
first_or_rest : {X : Type 0} (y : X) (ys : List X) (x : X) → Contains (y ∷ ys) x
    → (y ≡ x) ⊎ Contains ys x
first_or_rest y ys x (zero, inside, at) = inl at
first_or_rest y ys x (suc k, inside, at) = inr (k, omega (arith, inside), at)

-- ---- names of a set

same_number : (a b : ℕ) → (a ≡ b) ⊎ (a ≢ b)
same_number zero zero = inl refl
same_number zero (suc b) = inr (λ e. absurd (omega (arith, e)))
same_number (suc a) zero = inr (λ e. absurd (omega (arith, e)))
same_number (suc a) (suc b) = elim (same_number a b) [
  | inl e ↦ inl (ap suc e)
  | inr differ ↦ inr (λ e. differ (omega (arith, e)))
]

same_or_not : (a b : Name) → (a ≡ b) ⊎ (a ≢ b)
same_or_not a b = elim (same_number a.node b.node) [
  | inl node ↦ elim (same_number a.seq b.seq) [
    | inl seq ↦ inl (same_name a b node seq)
    | inr differ ↦ inr (λ e. differ (ap (λ (n : Name). n.seq) e))
  ]
  | inr differ ↦ inr (λ e. differ (ap (λ (n : Name). n.node) e))
]

abbrev HasName : List Op → Name → Type 0
HasName ops n = (op : Op) × Contains ops op × (op.name ≡ n)

has_or_not : (ops : List Op) (n : Name) → HasName ops n ⊎ (¬ HasName ops n)
has_or_not [] n = inr (λ (op, there, is). none_in op there)
has_or_not (y ∷ ops) n = by_first (same_or_not y.name n) (has_or_not ops n)
  where
    by_first : (y.name ≡ n) ⊎ (y.name ≢ n) → HasName ops n ⊎ (¬ HasName ops n)
        → HasName (y ∷ ops) n ⊎ (¬ HasName (y ∷ ops) n)
    by_first (inl is) rest = inl (y, (0, omega arith, refl), is)
    by_first (inr other) (inl (op, there, is)) = inl (op, Contains-cons y ops op there, is)
    by_first (inr other) (inr none) =
        inr (λ (op, there, is). elim (first_or_rest y ops op there) [
          | inl same ↦ other (ap (λ (o : Op). o.name) same ∙ is)
          | inr later ↦ none (op, later, is)
        ])

named_or_not : (a : SetBy op_cmp) (n : Name) → IsName (In a) n ⊎ (¬ IsName (In a) n)
named_or_not a n = elim (has_or_not (members a) n) [
  | inl (op, there, is) ↦ inl (op, listed_member a op there, is)
  | inr none ↦ inr (λ (op, there, is). none (op, member_listed a op there, is))
]

-- ---- the greatest run of names around one

module _ (a : SetBy op_cmp) (top : Name) (there : IsName (In a) top) where
  -- the name of its node with this number
  abbrev at_seq : (seq : ℕ) → 0 < seq → seq < 2 ^ 32 → Name
  at_seq seq some low =
      record {
        node = top.node;
        seq = seq;
        node_in_range = top.node_in_range;
        seq_in_range = (some, low);
      }

  -- all names of its node from the one number to the other are there
  abbrev AreNames : ℕ → ℕ → Type 0
  AreNames from to =
      (n : Name) → n.node ≡ top.node → from ≤ n.seq → n.seq ≤ to → IsName (In a) n

  -- none of its node with this number is
  abbrev IsNone : ℕ → Type 0
  IsNone seq = (n : Name) → n.node ≡ top.node → n.seq ≡ seq → ¬ IsName (In a) n

  record Lowest : Type 0 where
    from : ℕ
    some : 0 < from
    low : from ≤ top.seq
    names : AreNames from top.seq
    before : (seq : ℕ) → seq + 1 ≡ from → IsNone seq

  itself : AreNames top.seq top.seq
  itself n node low high =
      subst (IsName (In a)) (same_name top n (sym node) (omega (arith, low, high))) there

  one_lower : (from : ℕ) (x : Name) → x.node ≡ top.node → x.seq ≡ from → IsName (In a) x
      → AreNames (suc from) top.seq → AreNames from top.seq
  one_lower from x node is has names n own low high = elim (cases_lt from n.seq) [
    | inl above ↦ names n own (omega (arith, above)) high
    | inr under ↦
        let same : n.seq ≡ from = omega (arith, low, under) in
        subst (IsName (In a)) (same_name x n (node ∙ sym own) (is ∙ sym same)) has
  ]

  one_higher : (to : ℕ) (x : Name) → x.node ≡ top.node → x.seq ≡ suc to → IsName (In a) x
      → AreNames top.seq to → AreNames top.seq (suc to)
  one_higher to x node is has names n own low high = elim (cases_lt to n.seq) [
    | inl above ↦
        let same : n.seq ≡ suc to = omega (arith, high, above) in
        subst (IsName (In a)) (same_name x n (node ∙ sym own) (is ∙ sym same)) has
    | inr under ↦ names n own low under
  ]

  none_at : (x : Name) → x.node ≡ top.node → (seq : ℕ) → x.seq ≡ seq → ¬ IsName (In a) x
      → IsNone seq
  none_at x node seq is none n own at has =
      none (subst (IsName (In a)) (same_name n x (own ∙ sym node) (at ∙ sym is)) has)

  lowest : (from : ℕ) → 0 < from → from ≤ top.seq → AreNames from top.seq → Lowest
  lowest zero some low names = absurd (omega (arith, some))
  lowest (suc zero) some low names =
      record {
        from = 1;
        some = some;
        low = low;
        names = names;
        before = λ seq is n own at has. absurd (omega (arith, is, at, n.seq_in_range.0));
      }
  lowest (suc (suc from)) some low names =
      by_test (named_or_not a x)
      (λ has. lowest (suc from) (omega arith) (omega (arith, low))
      (one_lower (suc from) x refl refl has names))
    where
      x : Name
      x = at_seq (suc from) (omega arith) (omega (arith, low, top.seq_in_range.1))

      by_test : IsName (In a) x ⊎ (¬ IsName (In a) x) → (IsName (In a) x → Lowest) → Lowest
      by_test (inl has) more = more has
      by_test (inr none) more =
          record {
            from = suc (suc from);
            some = some;
            low = low;
            names = names;
            before = λ seq is. none_at x refl seq (omega (arith, is)) none;
          }

  record Highest : Type 0 where
    to : ℕ
    short : to < 2 ^ 32
    high : top.seq ≤ to
    names : AreNames top.seq to
    behind : (seq : ℕ) → seq ≡ to + 1 → IsNone seq

  -- so many numbers are above it
  highest : (left to : ℕ) → to + left ≡ 4294967295 → top.seq ≤ to → AreNames top.seq to → Highest
  highest zero to is high names =
      record {
        to = to;
        short = omega (arith, is);
        high = high;
        names = names;
        behind = λ seq e n own at has. absurd (omega (arith, is, e, at, n.seq_in_range.1));
      }
  highest (suc left) to is high names =
      by_test (named_or_not a x)
      (λ has. highest left (suc to) (omega (arith, is)) (omega (arith, high))
      (one_higher to x refl refl has names))
    where
      x : Name
      x = at_seq (suc to) (omega arith) (omega (arith, is))

      by_test : IsName (In a) x ⊎ (¬ IsName (In a) x) → (IsName (In a) x → Highest) → Highest
      by_test (inl has) more = more has
      by_test (inr none) more =
          record {
            to = to;
            short = omega (arith, is);
            high = high;
            names = names;
            behind = λ seq e. none_at x refl seq (omega (arith, e)) none;
          }

  -- the span of them
  record SpanAround : Type 0 where
    pub span : Span
    pub is : IsSpan (In a) span
    pub has : in_span span top ≡ true

  -- a name between two of one node is of that node
  node_between : (n : Name) (first to : ℕ) → 0 < first → to < 2 ^ 32
      → (top.node - 1) * 4294967296 + first ≤ name_rank n
      → name_rank n ≤ (top.node - 1) * 4294967296 + to
      → (n.node ≡ top.node) × (first ≤ n.seq) × (n.seq ≤ to)
  node_between n first to some short low high = (
    omega (arith, low, high, some, short, n.node_in_range.0, n.seq_in_range.1, top.node_in_range.0),
    omega (arith, low, high, some, short, n.node_in_range.0, n.seq_in_range.1, top.node_in_range.0),
    omega (arith, low, high, some, short, n.node_in_range.0, n.seq_in_range.1, top.node_in_range.0),
  )

  span_around : Lowest → Highest → SpanAround
  span_around l h =
      record {
        span = s;
        is = record { held = held; none_before = before; none_after = after };
        has =
            within (name_rank s.first) (name_rank top) (last_rank s) (omega (arith, l.low))
            (omega (arith, h.high));
      }
    where
      s : Span
      s = record {
        first = at_seq l.from l.some (omega (arith, l.low, top.seq_in_range.1));
        last = h.to;
        rises = omega (arith, l.low, h.high);
        last_in_range = h.short;
      }

      held : (n : Name) → in_span s n ≡ true → IsName (In a) n
      held n e =
          let b = bounds (name_rank s.first) (name_rank n) (last_rank s) e in
          let x = node_between n l.from h.to l.some h.short b.0 b.1 in
          elim (cases_lt n.seq top.seq) [
            | inl less ↦ l.names n x.0 x.1 (omega (arith, less))
            | inr more ↦ h.names n x.0 more x.2
          ]

      before : (n : Name) → name_rank n + 1 ≡ name_rank s.first → ¬ IsName (In a) n
      before n e =
          let seq = n.seq_in_range in
          let node = n.node_in_range.0 in
          let low = l.low in
          l.before n.seq
          (omega (
            arith,
            e,
            node,
            seq.0,
            seq.1,
            l.some,
            low,
            top.seq_in_range.1,
            top.node_in_range.0,
          )) n
          (omega (
            arith,
            e,
            node,
            seq.0,
            seq.1,
            l.some,
            low,
            top.seq_in_range.1,
            top.node_in_range.0,
          )) refl

      after : (n : Name) → name_rank n ≡ last_rank s + 1 → ¬ IsName (In a) n
      after n e =
          let seq = n.seq_in_range in
          let node = n.node_in_range.0 in
          h.behind n.seq (omega (arith, e, node, seq.0, seq.1, h.short, top.node_in_range.0)) n
          (omega (arith, e, node, seq.0, seq.1, h.short, top.node_in_range.0)) refl

  around : SpanAround
  around =
      span_around
      (lowest top.seq top.seq_in_range.0 (omega arith) itself)
      (highest (4294967295 - top.seq) top.seq (omega (arith, top.seq_in_range.1)) (omega arith)
      itself)

-- ---- the window that has a name

-- of windows of which one has the name it is that one
module _ (n : Name) where
  abbrev having : List Intervals → ℕ
  having ws = count_by (λ w. in_window w n) ws

  counted : (w : Intervals) (ws : List Intervals) (b : Bool) → in_window w n ≡ b
      → having (w ∷ ws) ≡ cond b 1 0 + having ws
  counted w ws b e =
      sum_by-cons (λ (v : Intervals). cond (in_window v n) 1 0) w ws
      ∙ ap (λ r. cond r 1 0 + having ws) e

  none_has : (ws : List Intervals) → having ws ≡ 0 → (v : Intervals) → Contains ws v
      → in_window v n ≡ true → ⊥
  none_has [] none v there has = none_in v there
  none_has (w ∷ ws) none v there has =
      by_test (in_window w n) refl (first_or_rest w ws v there)
      (λ rest later. none_has ws rest v later has)
    where
      by_test : (b : Bool) → in_window w n ≡ b → (w ≡ v) ⊎ Contains ws v
          → (having ws ≡ 0 → Contains ws v → ⊥) → ⊥
      by_test true e which more = let c = counted w ws true e in absurd (omega (arith, c, none))
      by_test false e (inl same) more =
          true≢false (sym has ∙ ap (λ (u : Intervals). in_window u n) (sym same) ∙ e)
      by_test false e (inr later) more =
          let c = counted w ws false e in more (omega (arith, c, none)) later

  only_one : (ws : List Intervals) → having ws ≡ 1 → (v w : Intervals) → Contains ws v
      → Contains ws w → in_window v n ≡ true → in_window w n ≡ true → v ≡ w
  only_one [] one v w there here has holds = none_in v there
  only_one (u ∷ ws) one v w there here has holds =
      by_test (in_window u n) refl (first_or_rest u ws v there) (first_or_rest u ws w here)
      (λ rest later also. only_one ws rest v w later also has holds)
    where
      apart : in_window u n ≡ false → (x : Intervals) → u ≡ x → in_window x n ≡ true → ⊥
      apart e x same at =
          true≢false (sym at ∙ ap (λ (y : Intervals). in_window y n) (sym same) ∙ e)

      by_test : (b : Bool) → in_window u n ≡ b → (u ≡ v) ⊎ Contains ws v → (u ≡ w) ⊎ Contains ws w
          → (having ws ≡ 1 → Contains ws v → Contains ws w → v ≡ w) → v ≡ w
      by_test true e (inl same) (inl also) more = sym same ∙ also
      by_test true e (inr later) which more =
          let c = counted u ws true e in
          absurd (none_has ws (omega (arith, c, one)) v later has)
      by_test true e (inl same) (inr later) more =
          let c = counted u ws true e in
          absurd (none_has ws (omega (arith, c, one)) w later holds)
      by_test false e (inl same) which more = absurd (apart e v same has)
      by_test false e (inr later) (inl same) more = absurd (apart e w same holds)
      by_test false e (inr later) (inr also) more =
          let c = counted u ws false e in more (omega (arith, c, one)) later also

-- ---- what is not lacking

pub any_of : {X : Type 0} (p : X → Bool) (xs : List X) (x : X) → Contains xs x → p x ≡ true
    → list_any p xs ≡ true
any_of p [] x there e = none_in x there
any_of p (y ∷ xs) x there e =
    by_test (p y) refl (first_or_rest y xs x there) (λ later. any_of p xs x later e)
  where
    by_test : (b : Bool) → p y ≡ b → (y ≡ x) ⊎ Contains xs x
        → (Contains xs x → list_any p xs ≡ true) → (p y || list_any p xs) ≡ true
    by_test true is which more = ap (λ b. b || list_any p xs) is
    by_test false is (inl same) more = absurd (true≢false (sym e ∙ ap p (sym same) ∙ is))
    by_test false is (inr later) more = ap (λ b. b || list_any p xs) is ∙ more later

-- the window that has a span
in_some : (ws : List Intervals) (s : Span) → Contains (flat_map (λ (w : Intervals). w.spans) ws) s
    → (w : Intervals) × Contains ws w × Contains w.spans s
in_some [] s there = none_in s there
in_some (w ∷ ws) s there =
    elim (Contains-append_cases w.spans (flat_map (λ (v : Intervals). v.spans) ws) s there) [
      | inl here ↦ (w, (0, omega arith, refl), here)
      | inr later ↦
          let x = in_some ws s later in (x.0, Contains-cons w ws x.0 x.1, x.2)
    ]

-- a span that fits stands between the ends
fits_between : (from to : ℕ) (ss : List Span) (s : Span) → fit from to ss ≡ true → Contains ss s
    → (from ≤ name_rank s.first) × (last_rank s ≤ to)
fits_between from to [] s fits there = none_in s there
fits_between from to (t ∷ ss) s fits there =
    let x = fit_at from to t ss fits in
    elim (first_or_rest t ss s there) [
      | inl same ↦ (
        subst (λ (u : Span). from ≤ name_rank u.first) same x.starts,
        subst (λ (u : Span). last_rank u ≤ to) same x.ends,
      )
      | inr later ↦
          let y = fits_between (last_rank t + 2) to ss s x.rest later in
          (omega (arith, x.starts, y.0, ends_above t), y.1)
    ]

both_of : (p q : Bool) → (p && q) ≡ true → (p ≡ true) × (q ≡ true)
both_of true true e = (refl, refl)
both_of true false e = absurd (true≢false (sym e))
both_of false q e = absurd (true≢false (sym e))

module _ (covers : (a : SetBy op_cmp) (ws : List Intervals) → AreWindows (In a) ws → (n : Name)
    → count_by (λ w. in_window w n) ws ≡ 1) where
  -- what the set has no window of it lacks
  pub not_lacking : (a : SetBy op_cmp) (ws : List Intervals) → AreWindows (In a) ws
      → (w : Intervals) → Contains ws w → (op : Op) → In a op → is_lacking w op ≡ true → ⊥
  not_lacking a ws are w there op has lacks =
      let n = op.name in
      let x = around a n (op, has, refl) in
      let v = in_some ws x.span (are.spans.all x.span x.is) in
      let fits = fits_between (name_rank v.0.from) (name_rank v.0.to) v.0.spans x.span v.0.fitting
      v.2 in
      let b = bounds (name_rank x.span.first) (name_rank n) (last_rank x.span) x.has in
      let inside : in_window v.0 n ≡ true =
      within (name_rank v.0.from) (name_rank n) (name_rank v.0.to) (omega (arith, fits.0, b.0))
      (omega (arith, fits.1, b.1)) in
      let parts = both_of (in_window w n) (not (list_any (λ s. in_span s n) w.spans)) lacks in
      let same = only_one n ws (covers a ws are n) v.0 w v.1 there inside parts.0 in
      let known = any_of (λ s. in_span s n) w.spans x.span
      (subst (λ (u : Intervals). Contains u.spans x.span) same v.2) x.has in
      true≢false (sym parts.1 ∙ ap not known)
