-- A registry has one list of spans, and one of windows.
use Rattle.std.proofs.Common.{◌≡◌, ◌⊎◌, inl, inr, zero, suc, List, [], ◌∷◌, ◌++◌, length, take, drop, refl, sym, ap, subst, ◌∙◌, arith, length-append, append-nil, Ordering, Less, Equal}
use Rattle.std.specs.Cmp.{IsTotalOrder, tied_itself}
use Rattle.std.specs.List.{AllByRecursion, Contains, flat_map}
use Rattle.std.specs.List.Sorted.{IsStrictlySortedBy}
use Rattle.std.proofs.lemmas.Cmp.{on_total}
use Rattle.std.proofs.lemmas.List.{take_at, drop_at}
use Rattle.std.proofs.lemmas.List.Elements.{All-from_recursion, All-contains}
use Rattle.fl_labels.specs.declared.name.Name.{Name}
use Rattle.fl_labels.specs.NameOrder.{name_total, same_name}
use Rattle.fl_ops.specs.declared.op.Op.{Op}
use Rattle.fl_opset.specs.declared.span.Span.{Span}
use Rattle.fl_opset.specs.declared.intervals.Intervals.{Intervals}
use Rattle.fl_opset.specs.Windows.{AreSpans, AreCut, AreWindows, EndsWith, IsLeastName, IsGreatestName, IsNextName}
use Rattle.fl_opset.specs.laws.ByRank.{rank_exact, same_window}

module _ {K : Type 0} {R : K → K → Ordering} (o : IsTotalOrder R) where
  not_less : (x : K) → R x x ≡ Less → ⊥
  not_less x h = let e : R x x ≡ Equal = tied_itself o x in cc

  -- the first is one of these, or comes later
  first_or : (x y : K) (ys : List K) → Contains (y ∷ ys) x → (y ≡ x) ⊎ Contains ys x
  first_or x y ys (zero, inside, at) = inl at
  first_or x y ys (suc k, inside, at) = inr (k, omega arith, at)

  later : (y x : K) (ys : List K) → AllByRecursion (λ z. R y z ≡ Less) ys → Contains ys x → R y x ≡ Less
  later y x ys h c = All-contains (λ z. R y z ≡ Less) ys x (All-from_recursion (λ z. R y z ≡ Less) ys h) c

  heads : (x y : K) (xs ys : List K) → AllByRecursion (λ z. R x z ≡ Less) xs → AllByRecursion (λ z. R y z ≡ Less) ys → Contains (y ∷ ys) x → Contains (x ∷ xs) y → x ≡ y
  heads x y xs ys up down c d = elim (first_or x y ys c) [
    | inl same ↦ sym same
    | inr after ↦ elim (first_or y x xs d) [
      | inl same ↦ same
      | inr past ↦ absurd (not_less x (o.trans x y x (later x y xs up past) (later y x ys down after)))
    ]
  ]

  tail : (x : K) (xs ys : List K) → AllByRecursion (λ z. R x z ≡ Less) xs → ((z : K) → Contains (x ∷ xs) z → Contains (x ∷ ys) z) → (z : K) → Contains xs z → Contains ys z
  tail x xs ys up there z c = elim (first_or z x ys (there z (suc c.0, omega (arith, c.1), c.2))) [
    | inl same ↦ absurd (not_less x (ap (R x) same ∙ later x z xs up c))
    | inr after ↦ after
  ]

  -- lists that rise and have the same items are the same
  pub same_sorted : (xs ys : List K) → IsStrictlySortedBy R xs → IsStrictlySortedBy R ys → ((z : K) → Contains xs z → Contains ys z) → ((z : K) → Contains ys z → Contains xs z) → xs ≡ ys
  unfolding IsStrictlySortedBy
  same_sorted [] [] up down there back = refl
  same_sorted [] (y ∷ ys) up down there back = absurd (let c = back y (0, omega arith, refl) in omega (arith, c.1))
  same_sorted (x ∷ xs) [] up down there back = absurd (let c = there x (0, omega arith, refl) in omega (arith, c.1))
  same_sorted (x ∷ xs) (y ∷ ys) up down there back =
      let head = heads x y xs ys up.0 down.0 (there x (0, omega arith, refl)) (back y (0, omega arith, refl)) in
      let down' : AllByRecursion (λ z. R x z ≡ Less) ys = subst (λ w. AllByRecursion (λ z. R w z ≡ Less) ys) (sym head) down.0 in
      let there' : (z : K) → Contains (x ∷ xs) z → Contains (x ∷ ys) z = λ z c. subst (λ w. Contains (w ∷ ys) z) (sym head) (there z c) in
      let back' : (z : K) → Contains (x ∷ ys) z → Contains (x ∷ xs) z = λ z c. back z (subst (λ w. Contains (w ∷ ys) z) head c) in
      let rest = same_sorted xs ys up.1 down.1 (tail x xs ys up.0 there') (tail x ys xs down' back') in
      λ i. head i ∷ rest i

pub one_spans : (U : Op → Type 0) (ss ts : List Span) → AreSpans U ss → AreSpans U ts → ss ≡ ts
one_spans U ss ts a b = same_sorted (on_total (λ (s : Span). s.first) name_total) ss ts a.rise b.rise (λ s c. b.all s (a.only s c)) (λ s c. a.all s (b.only s c))

ends_rank : (ss : List Span) (m n : Name) → EndsWith ss m → EndsWith ss n → m ≡ n
ends_rank [] m n h k = absurd h
ends_rank (s ∷ []) m n h k = rank_exact m n (sym h ∙ k)
ends_rank (s ∷ t ∷ ss) m n h k = ends_rank (t ∷ ss) m n h k

next_same : (k m n : Name) → IsNextName k m → IsNextName k n → m ≡ n
next_same k m n h j = rank_exact m n (omega (arith, h.1 n j.0, j.1 m h.0))

greatest_same : (m n : Name) → IsGreatestName m → IsGreatestName n → m ≡ n
greatest_same m n h k = same_name m n (h.0 ∙ sym k.0) (h.1 ∙ sym k.1)

spans_of_all : List Intervals → List Span
spans_of_all ws = flat_map (λ w. w.spans) ws

pub one_cut : (B C : Name → Type 0) → ((m n : Name) → B m → C n → m ≡ n) → (ws vs : List Intervals) → AreCut B ws → AreCut C vs → flat_map (λ w. w.spans) ws ≡ flat_map (λ w. w.spans) vs → ws ≡ vs
one_cut B C same [] vs h k e = absurd h
one_cut B C same (w ∷ ws) [] h k e = absurd k
one_cut B C same (w ∷ []) (v ∷ []) h k e =
    let spans : w.spans ≡ v.spans = sym (append-nil w.spans) ∙ e ∙ append-nil v.spans in
    let one = same_window w v (same w.from v.from h.0 k.0) (greatest_same w.to v.to h.1 k.1) spans in
    λ i. one i ∷ []
one_cut B C same (w ∷ []) (v ∷ u ∷ us) h k e =
    let long = ap length e in
    absurd (omega (arith, long, length-append w.spans [], length-append v.spans (u.spans ++ flat_map (λ w. w.spans) us), length-append u.spans (flat_map (λ w. w.spans) us), w.few, k.1, k.3))
one_cut B C same (w ∷ x ∷ ws) (v ∷ []) h k e =
    let long = ap length e in
    absurd (omega (arith, long, length-append v.spans [], length-append w.spans (x.spans ++ flat_map (λ w. w.spans) ws), length-append x.spans (flat_map (λ w. w.spans) ws), v.few, h.1, h.3))
one_cut B C same (w ∷ x ∷ ws) (v ∷ u ∷ us) h k e =
    let left = flat_map (λ (w : Intervals). w.spans) (x ∷ ws) in
    let right = flat_map (λ (w : Intervals). w.spans) (u ∷ us) in
    let spans : w.spans ≡ v.spans = sym (take_at w.spans left 512 h.1) ∙ ap (take 512) e ∙ take_at v.spans right 512 k.1 in
    let rest : left ≡ right = sym (drop_at w.spans left 512 h.1) ∙ ap (drop 512) e ∙ drop_at v.spans right 512 k.1 in
    let ends = ends_rank v.spans w.to v.to (subst (λ l. EndsWith l w.to) spans h.2) k.2 in
    let one = same_window w v (same w.from v.from h.0 k.0) ends spans in
    let others = one_cut (IsNextName w.to) (IsNextName v.to) (λ m n a b. next_same v.to m n (subst (λ t. IsNextName t m) ends a) b) (x ∷ ws) (u ∷ us) h.4 k.4 rest in
    λ i. one i ∷ others i

pub one_windows : (U : Op → Type 0) (ws vs : List Intervals) → AreWindows U ws → AreWindows U vs → ws ≡ vs
one_windows U ws vs a b =
    one_cut IsLeastName IsLeastName (λ m n h k. same_name m n (h.0 ∙ sym k.0) (h.1 ∙ sym k.1)) ws vs a.cut b.cut
    (one_spans U (flat_map (λ w. w.spans) ws) (flat_map (λ w. w.spans) vs) a.spans b.spans)
