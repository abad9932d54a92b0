-- What is lacking to all windows is all that is lacking.
use Rattle.std.proofs.Common.{◌≡◌, ◌⊎◌, inl, inr, ℕ, zero, suc, ◌≤◌, Bool, true, false, not, ◌&&◌, ◌||◌, List, [], ◌∷◌, refl, sym, subst, ◌∙◌, arith}
use Rattle.std.specs.List.{Contains, flat_map, list_any}
use Rattle.std.proofs.lemmas.Bool.{cases_lt}
use Rattle.std.proofs.lemmas.List.Elements.{Contains-append_left, Contains-append_right}
use Rattle.fl_labels.specs.SetBy.{SetBy, In, members, union, contains, contains-union}
use Rattle.fl_labels.specs.declared.name.Name.{Name}
use Rattle.fl_ops.specs.declared.op.Op.{Op}
use Rattle.fl_ops.specs.OpOrder.{op_cmp}
use Rattle.fl_ops.specs.OpLaws.{op_total}
use Rattle.fl_ops.specs.Registry.{Listed}
use Rattle.fl_opset.specs.declared.span.Span.{Span}
use Rattle.fl_opset.specs.declared.intervals.Intervals.{Intervals}
use Rattle.fl_opset.specs.Rank.{name_rank}
use Rattle.fl_opset.specs.Spans.{in_span}
use Rattle.fl_opset.specs.Windows.{AreWindows, AreCut, IsLeastName, IsNextName, in_window, is_lacking, lacking}
use Rattle.fl_opset.specs.Catching.{HaveNoClash, KnowsOwn, MayTake}
use Rattle.fl_opset.specs.laws.Members.{Contains-cons, Contains-filter, member_listed, lacking_member}
use Rattle.fl_opset.specs.laws.Fits.{within}

-- each name is in a window
pub record Windowed (ws : List Intervals) (n : Name) : Type 0 where
  pub window : Intervals
  pub there : Contains ws window
  pub inside : in_window window n ≡ true

in_later : (w : Intervals) (ws : List Intervals) (n : Name) → Windowed ws n → Windowed (w ∷ ws) n
in_later w ws n x = record { window = x.window; there = Contains-cons w ws x.window x.there; inside = x.inside }

in_first : (w : Intervals) (ws : List Intervals) (n : Name) → name_rank w.from ≤ name_rank n → name_rank n ≤ name_rank w.to → Windowed (w ∷ ws) n
in_first w ws n low high = record { window = w; there = (0, omega arith, refl); inside = within (name_rank w.from) (name_rank n) (name_rank w.to) low high }

pub windowed : (Begins : Name → Type 0) (ws : List Intervals) (n : Name) → AreCut Begins ws → ((from : Name) → Begins from → name_rank from ≤ name_rank n) → Windowed ws n
windowed Begins [] n h low = absurd h
windowed Begins (w ∷ []) n h low = in_first w [] n (low w.from h.0) (omega (arith, h.1.0, h.1.1, n.node_in_range.1, n.seq_in_range.1))
windowed Begins (w ∷ v ∷ ws) n h low = elim (cases_lt (name_rank w.to) (name_rank n)) [
  | inl past ↦ in_later w (v ∷ ws) n (windowed (IsNextName w.to) (v ∷ ws) n h.4 (λ from next. next.1 n past))
  | inr here ↦ in_first w (v ∷ ws) n (low w.from h.0) here
]

-- a span of one of the windows is one of all
of_all : (ws : List Intervals) (w : Intervals) (s : Span) → Contains ws w → Contains w.spans s → Contains (flat_map (λ w. w.spans) ws) s
of_all [] w s c d = absurd (omega (arith, c.1))
of_all (v ∷ ws) w s (zero, inside, at) d = Contains-append_left v.spans (flat_map (λ w. w.spans) ws) s (subst (λ (u : Intervals). Contains u.spans s) (sym at) d)
of_all (v ∷ ws) w s (suc k, inside, at) d = Contains-append_right v.spans (flat_map (λ w. w.spans) ws) s (of_all ws w s (k, omega arith, at) d)

-- a span that has the name, where one does
pick_span : (s : Span) (ss : List Span) (n : Name) (b : Bool) → in_span s n ≡ b → (b || list_any (λ s. in_span s n) ss) ≡ true
    → (list_any (λ s. in_span s n) ss ≡ true → (t : Span) × Contains ss t × (in_span t n ≡ true)) → (t : Span) × Contains (s ∷ ss) t × (in_span t n ≡ true)
pick_span s ss n true e h later = (s, (0, omega arith, refl), e)
pick_span s ss n false e h later = let x = later h in (x.0, Contains-cons s ss x.0 x.1, x.2)

some_span : (ss : List Span) (n : Name) → list_any (λ s. in_span s n) ss ≡ true → (s : Span) × Contains ss s × (in_span s n ≡ true)
some_span [] n h = absurd (cc)
some_span (s ∷ ss) n h = pick_span s ss n (in_span s n) refl h (λ k. some_span ss n k)

module _ (a b taken : SetBy op_cmp) (ws : List Intervals) (have : AreWindows (In a) ws) (clear : HaveNoClash (In a) (In b)) (kept : (op : Op) → In a op → In taken op)
    (got : (w : Intervals) → Contains ws w → (op : Op) → Listed (lacking b w) op → In taken op) where
  in_one : (op : Op) → In b op → (w : Intervals) → Contains ws w → in_window w op.name ≡ true → (r : Bool) → list_any (λ s. in_span s op.name) w.spans ≡ r → In taken op
  in_one op in_b w there inside true e =
      let x = some_span w.spans op.name e in
      let named = (have.spans.only x.0 (of_all ws w x.0 there x.1)).held op.name x.2 in
      subst (λ (o : Op). In taken o) (clear named.0 op named.1 in_b named.2) (kept named.0 named.1)
  in_one op in_b w there inside false e =
      got w there op (Contains-filter (is_lacking w) (members b) op (member_listed b op in_b) (λ i. both (inside i) (not (e i))))
    where
      both : Bool → Bool → Bool
      both p q = p && q

  pub all_there : (op : Op) → In b op → In taken op
  all_there op in_b =
      let found = windowed IsLeastName ws op.name have.cut (λ from least. omega (arith, least.0, least.1, op.name.node_in_range.0, op.name.seq_in_range.0)) in
      in_one op in_b found.window found.there found.inside (list_any (λ s. in_span s op.name) found.window.spans) refl

or_true : (p q : Bool) → (p || q) ≡ true → (p ≡ true) ⊎ (q ≡ true)
or_true true q h = inl refl
or_true false q h = inr h

or_member : (a b : SetBy op_cmp) (op : Op) → In (union a b) op → In a op ⊎ In b op
or_member a b op h = or_true (contains a op) (contains b op) (sym (contains-union op_total a b op) ∙ h)

pub all_may : (node : ℕ) (a b now : SetBy op_cmp) → HaveNoClash (In a) (In b) → HaveNoClash (In b) (In b) → KnowsOwn node (In a) (In b)
    → ((op : Op) → In a op → In now op) → ((op : Op) → In now op → In (union a b) op) → (w : Intervals) (op : Op) → Listed (lacking b w) op → MayTake node (In now) op
all_may node a b now clear single own more within w op in_lacking =
    let in_b = lacking_member b w op in_lacking in
    record {
      own = λ mine. (op, more op (own op in_b mine), refl);
      agrees = λ other in_now same. elim (or_member a b other (within other in_now)) [
        | inl in_a ↦ clear other op in_a in_b same
        | inr in_b_too ↦ single other op in_b_too in_b same
      ];
    }
