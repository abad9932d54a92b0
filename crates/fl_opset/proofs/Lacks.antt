-- What is lacking between spans.
use Rattle.std.proofs.Common.{◌≡◌, inl, inr, ℕ, ◌+◌, ◌-◌, ◌<◌, ◌≤◌, Bool, true, false, ◌&&◌, ◌||◌, not, List, [], ◌∷◌, ◌++◌, length, get_or, take, drop, refl, sym, ap, subst, ◌∙◌, arith, ltb, cond, append_assoc}
use Rattle.std.specs.List.{All, AllWithin, AllByRecursion, filter, list_any}
use Rattle.std.specs.List.Sorted.{IsNonDecreasingBy}
use Rattle.std.proofs.lemmas.Bool.{cases_lt}
use Rattle.std.proofs.lemmas.Bool.Decides.{nat_tests}
use Rattle.std.proofs.lemmas.List.{append-nil, drop_more, drop_all, length-take-le, get_or-take, get_or-drop, get_or_default, length-drop}
use Rattle.std.proofs.lemmas.List.Elements.{recursion_from_All, filter-append}
use Rattle.fl_ops.specs.declared.op.Op.{Op}
use Rattle.fl_opset.specs.declared.span.Span.{Span}
use Rattle.fl_opset.specs.declared.intervals.Intervals.{Intervals}
use Rattle.fl_opset.specs.Rank.{name_rank, op_rank, last_rank}
use Rattle.fl_opset.specs.Spans.{in_span, fit}
use Rattle.fl_opset.specs.Windows.{is_lacking}
use Rattle.fl_opset.specs.laws.Fits.{within, too_low, too_high, ends_above, fit_at, fit_drop}

-- the parts of a list that a search cuts
module _ {X : Type 0} (n : X → ℕ) (xs : List X) (place low : ℕ) (bound : place ≤ length xs) where
  below_true : (a b : ℕ) → ltb a b ≡ true → a < b
  below_true a b h = grind (arith, nat_tests)

  above_false : (a b : ℕ) → ltb a b ≡ false → b ≤ a
  above_false a b h = grind (arith, nat_tests)

  pub cut_below : (ys : List X) → ys ≡ take place xs → AllWithin (λ y. ltb (n y) low ≡ true) xs 0 place → All (λ x. n x < low) ys
  cut_below ys is at k d inside =
      let long : length ys ≡ place = ap length is ∙ length-take-le place xs bound in
      let here : k < place = omega (arith, long) in
      let e : get_or ys k d ≡ get_or xs k d = ap (λ l. get_or l k d) is ∙ get_or-take place xs k d here in
      omega (arith, ap n e, below_true (n (get_or xs k d)) low (at k d (omega arith) here))

  pub cut_above : (ys : List X) → ys ≡ drop place xs → AllWithin (λ y. ltb (n y) low ≡ false) xs place (length xs) → All (λ x. low ≤ n x) ys
  cut_above ys is at k d inside =
      let long : length ys ≡ length xs - place = ap length is ∙ length-drop place xs in
      let here : place + k < length xs = omega (arith, long) in
      let e : get_or ys k d ≡ get_or xs (place + k) d = ap (λ l. get_or l k d) is ∙ get_or-drop place xs k d in
      omega (arith, ap n e, above_false (n (get_or xs (place + k) d)) low (at (place + k) d (omega arith) here))

-- what a search in the front of a list tells of all of it
module _ {X : Type 0} (n : X → ℕ) (xs ys : List X) (near place low : ℕ) (inside : near ≤ length xs) (front : ys ≡ take near xs) (bound : place ≤ length ys) where
  front_item : (k : ℕ) (d : X) → k < near → get_or ys k d ≡ get_or xs k d
  front_item k d here = ap (λ l. get_or l k d) front ∙ get_or-take near xs k d here

  front_long : length ys ≡ near
  front_long = ap length front ∙ length-take-le near xs inside

  pub all_bound : place ≤ length xs
  all_bound = omega (arith, front_long)

  pub all_below : AllWithin (λ y. ltb (n y) low ≡ true) ys 0 place → AllWithin (λ y. ltb (n y) low ≡ true) xs 0 place
  all_below at k d least most = ap (λ y. ltb (n y) low) (sym (front_item k d (omega (arith, front_long)))) ∙ at k d least most

  not_below : (a b : ℕ) → b ≤ a → ltb a b ≡ false
  not_below a b h = grind (arith, nat_tests)

  pub all_above : AllWithin (λ y. ltb (n y) low ≡ false) ys place (length ys) → All (λ x. low ≤ n x) (drop near xs)
      → AllWithin (λ y. ltb (n y) low ≡ false) xs place (length xs)
  all_above at past k d least most = elim (cases_lt k near) [
    | inl here ↦ ap (λ y. ltb (n y) low) (sym (front_item k d here)) ∙ at k d least (omega (arith, front_long))
    | inr after ↦
        let there : k - near < length (drop near xs) = omega (arith, length-drop near xs) in
        let e : get_or (drop near xs) (k - near) d ≡ get_or xs k d = get_or-drop near xs (k - near) d ∙ ap (λ i. get_or xs i d) (omega arith) in
        not_below (n (get_or xs k d)) low (omega (arith, past (k - near) d there, ap n e))
  ]

-- the front of a list that does not fall
pub front_rises : {X : Type 0} (n : X → ℕ) (xs ys : List X) (near : ℕ) → near ≤ length xs → ys ≡ take near xs → IsNonDecreasingBy n xs → IsNonDecreasingBy n ys
front_rises n xs ys near inside front up i j d order within =
    let long : length ys ≡ near = ap length front ∙ length-take-le near xs inside in
    let at : (k : ℕ) → k < near → get_or ys k d ≡ get_or xs k d = λ k here. ap (λ l. get_or l k d) front ∙ get_or-take near xs k d here in
    omega (arith, up i j d order (omega (arith, long)), ap n (at i (omega (arith, long))), ap n (at j (omega (arith, long))))

pub rest_rises : {X : Type 0} (n : X → ℕ) (xs ys : List X) (place : ℕ) → place ≤ length xs → ys ≡ drop place xs → IsNonDecreasingBy n xs → IsNonDecreasingBy n ys
rest_rises n xs ys place inside rest up i j d order within =
    let long : length ys ≡ length xs - place = ap length rest ∙ length-drop place xs in
    let at : (k : ℕ) → get_or ys k d ≡ get_or xs (place + k) d = λ k. ap (λ l. get_or l k d) rest ∙ get_or-drop place xs k d in
    omega (arith, up (place + i) (place + j) d (omega arith) (omega (arith, long)), ap n (at i), ap n (at j))

-- none behind an item of a list that does not fall is below it
pub rest_above : {X : Type 0} (n : X → ℕ) (xs : List X) (place low : ℕ) (x : X) → IsNonDecreasingBy n xs → place < length xs → x ≡ get_or xs place x → low ≤ n x → All (λ y. low ≤ n y) (drop place xs)
rest_above n xs place low x up here is le k d within =
    let there : place + k < length xs = omega (arith, length-drop place xs) in
    let first : x ≡ get_or xs place d = is ∙ get_or_default xs place x d here in
    omega (arith, up place (place + k) d (omega arith) there, ap n first, ap n (get_or-drop place xs k d))

-- tests that agree keep the same
pub same_kept : {X : Type 0} (p q : X → Bool) (xs : List X) → AllByRecursion (λ x. p x ≡ q x) xs → filter p xs ≡ filter q xs
same_kept p q [] h = refl
same_kept p q (x ∷ xs) h = λ i. cond (h.0 i) (x ∷ same_kept p q xs h.1 i) (same_kept p q xs h.1 i)

pub all_kept : {X : Type 0} (p : X → Bool) (xs : List X) → AllByRecursion (λ x. p x ≡ true) xs → filter p xs ≡ xs
all_kept p [] h = refl
all_kept p (x ∷ xs) h = λ i. cond (h.0 i) (x ∷ all_kept p xs h.1 i) (all_kept p xs h.1 i)

pub none_kept : {X : Type 0} (p : X → Bool) (xs : List X) → AllByRecursion (λ x. p x ≡ false) xs → filter p xs ≡ []
none_kept p [] h = refl
none_kept p (x ∷ xs) h = λ i. cond (h.0 i) (x ∷ none_kept p xs h.1 i) (none_kept p xs h.1 i)

pub weaker : {X : Type 0} (P Q : X → Type 0) → ((x : X) → P x → Q x) → (xs : List X) → AllByRecursion P xs → AllByRecursion Q xs
weaker P Q f [] h = tt
weaker P Q f (x ∷ xs) h = (f x h.0, weaker P Q f xs h.1)

-- whether no span has the operation's name
abbrev pub outside : List Span → Op → Bool
outside ss op = not (list_any (λ s. in_span s op.name) ss)

-- below what the spans begin with
outside_below : (from to : ℕ) (ss : List Span) (op : Op) → fit from to ss ≡ true → op_rank op < from → outside ss op ≡ true
outside_below from to [] op h low = refl
outside_below from to (s ∷ ss) op h low =
    let f = fit_at from to s ss h in
    ap (λ b. not (b || list_any (λ s. in_span s op.name) ss)) (too_low (name_rank s.first) (op_rank op) (last_rank s) (omega (arith, f.starts)))
    ∙ outside_below (last_rank s + 2) to ss op f.rest (omega (arith, f.starts, ends_above s))

before_first : (from to : ℕ) (s : Span) (ss : List Span) (op : Op) → fit from to (s ∷ ss) ≡ true → op_rank op < name_rank s.first → outside (s ∷ ss) op ≡ true
before_first from to s ss op h low =
    let f = fit_at from to s ss h in
    ap (λ b. not (b || list_any (λ s. in_span s op.name) ss)) (too_low (name_rank s.first) (op_rank op) (last_rank s) low)
    ∙ outside_below (last_rank s + 2) to ss op f.rest (omega (arith, ends_above s))

front_of : {X : Type 0} (P : X → Type 0) (xs ys : List X) → AllByRecursion P (xs ++ ys) → AllByRecursion P xs
front_of P [] ys h = tt
front_of P (x ∷ xs) ys h = (h.0, front_of P xs ys h.1)

both : {X : Type 0} (P Q : X → Type 0) (xs : List X) → AllByRecursion P xs → AllByRecursion Q xs → AllByRecursion (λ x. P x × Q x) xs
both P Q [] h k = tt
both P Q (x ∷ xs) h k = ((h.0, k.0), both P Q xs h.1 k.1)

-- what one span more takes from the rest
pub next_gap : (from to : ℕ) (s : Span) (ss : List Span) (rest before others mid after : List Op) → fit from to (s ∷ ss) ≡ true
    → rest ≡ before ++ others → others ≡ mid ++ after
    → All (λ op. op_rank op < name_rank s.first) before → All (λ op. name_rank s.first ≤ op_rank op) others
    → All (λ op. op_rank op < last_rank s + 1) mid → All (λ op. last_rank s + 1 ≤ op_rank op) after
    → filter (outside (s ∷ ss)) rest ≡ before ++ filter (outside ss) after
next_gap from to s ss rest before others mid after h e1 e2 low high ends past =
    let p = outside (s ∷ ss) in
    let first : filter p before ≡ before =
    all_kept p before (weaker (λ op. op_rank op < name_rank s.first) (λ op. p op ≡ true) (λ op l. before_first from to s ss op h l) before (recursion_from_All (λ op. op_rank op < name_rank s.first) before low)) in
    let last : filter p after ≡ filter (outside ss) after =
    same_kept p (outside ss) after (weaker (λ op. last_rank s + 1 ≤ op_rank op) (λ op. p op ≡ outside ss op)
    (λ op l. ap (λ b. not (b || list_any (λ s. in_span s op.name) ss)) (too_high (name_rank s.first) (op_rank op) (last_rank s) (omega (arith, l)))) after (recursion_from_All (λ op. last_rank s + 1 ≤ op_rank op) after past)) in
    let starts : AllByRecursion (λ op. name_rank s.first ≤ op_rank op) mid = front_of (λ op. name_rank s.first ≤ op_rank op) mid after (subst (AllByRecursion (λ op. name_rank s.first ≤ op_rank op)) e2 (recursion_from_All (λ op. name_rank s.first ≤ op_rank op) others high)) in
    let middle : filter p mid ≡ [] =
    none_kept p mid (weaker (λ op. (name_rank s.first ≤ op_rank op) × (op_rank op < last_rank s + 1)) (λ op. p op ≡ false)
    (λ op l. ap (λ b. not (b || list_any (λ s. in_span s op.name) ss)) (within (name_rank s.first) (op_rank op) (last_rank s) l.0 (omega (arith, l.1)))) mid
    (both (λ op. name_rank s.first ≤ op_rank op) (λ op. op_rank op < last_rank s + 1) mid starts (recursion_from_All (λ op. op_rank op < last_rank s + 1) mid ends))) in
    ap (filter p) (e1 ∙ ap (λ l. before ++ l) e2) ∙ filter-append p before (mid ++ after) ∙ (λ i. first i ++ filter-append p mid after i)
    ∙ (λ i. before ++ (middle i ++ last i))

-- the window's part of the operations
pub in_window_kept : (w : Intervals) (ops low above win high : List Op) → ops ≡ low ++ above → above ≡ win ++ high
    → All (λ op. op_rank op < name_rank w.from) low → All (λ op. name_rank w.from ≤ op_rank op) above
    → All (λ op. op_rank op < name_rank w.to + 1) win → All (λ op. name_rank w.to + 1 ≤ op_rank op) high
    → filter (outside w.spans) win ≡ filter (is_lacking w) ops
in_window_kept w ops low above win high e1 e2 under from upto past =
    let p = is_lacking w in
    let first : filter p low ≡ [] =
    none_kept p low (weaker (λ op. op_rank op < name_rank w.from) (λ op. p op ≡ false) (λ op l. ap (λ b. b && outside w.spans op) (too_low (name_rank w.from) (op_rank op) (name_rank w.to) l)) low (recursion_from_All (λ op. op_rank op < name_rank w.from) low under)) in
    let last : filter p high ≡ [] =
    none_kept p high (weaker (λ op. name_rank w.to + 1 ≤ op_rank op) (λ op. p op ≡ false) (λ op l. ap (λ b. b && outside w.spans op) (too_high (name_rank w.from) (op_rank op) (name_rank w.to) (omega (arith, l)))) high (recursion_from_All (λ op. name_rank w.to + 1 ≤ op_rank op) high past)) in
    let starts : AllByRecursion (λ op. name_rank w.from ≤ op_rank op) win = front_of (λ op. name_rank w.from ≤ op_rank op) win high (subst (AllByRecursion (λ op. name_rank w.from ≤ op_rank op)) e2 (recursion_from_All (λ op. name_rank w.from ≤ op_rank op) above from)) in
    let middle : filter p win ≡ filter (outside w.spans) win =
    same_kept p (outside w.spans) win (weaker (λ op. (name_rank w.from ≤ op_rank op) × (op_rank op < name_rank w.to + 1)) (λ op. p op ≡ outside w.spans op)
    (λ op l. ap (λ b. b && outside w.spans op) (within (name_rank w.from) (op_rank op) (name_rank w.to) l.0 (omega (arith, l.1)))) win
    (both (λ op. name_rank w.from ≤ op_rank op) (λ op. op_rank op < name_rank w.to + 1) win starts (recursion_from_All (λ op. op_rank op < name_rank w.to + 1) win upto))) in
    sym (ap (filter p) (e1 ∙ ap (λ l. low ++ l) e2) ∙ filter-append p low (win ++ high) ∙ (λ i. first i ++ filter-append p win high i)
    ∙ (λ i. middle i ++ last i) ∙ append-nil (filter (outside w.spans) win))

-- the same, at the numbers that a search is given: before the first span
pub window_kept : (w : Intervals) (ops low above win high : List Op) (ss : List Span) (none : List Op) (a b : ℕ) → ops ≡ low ++ above → above ≡ win ++ high → ss ≡ w.spans → none ≡ []
    → a ≡ name_rank w.from → b ≡ name_rank w.to
    → All (λ op. op_rank op < a) low → All (λ op. a ≤ op_rank op) above → All (λ op. op_rank op < b + 1) win → All (λ op. b + 1 ≤ op_rank op) high
    → none ++ filter (outside ss) win ≡ filter (is_lacking w) ops
window_kept w ops low above win high ss none a b e1 e2 same empty p q under from upto past =
    (λ i. empty i ++ filter (outside (same i)) win)
    ∙ in_window_kept w ops low above win high e1 e2
    (subst (λ n. All (λ op. op_rank op < n) low) p under) (subst (λ n. All (λ op. n ≤ op_rank op) above) p from)
    (subst (λ n. All (λ op. op_rank op < n + 1) win) q upto) (subst (λ n. All (λ op. n + 1 ≤ op_rank op) high) q past)

-- after one span more
pub gap_taken : (from to : ℕ) (all : List Span) (i : ℕ) (s : Span) (wanted rest before others mid after taken more : List Op) (a b : ℕ)
    → fit from to all ≡ true → i < length all → s ≡ get_or all i s
    → rest ≡ before ++ others → others ≡ mid ++ after → a ≡ name_rank s.first → b ≡ last_rank s
    → All (λ op. op_rank op < a) before → All (λ op. a ≤ op_rank op) others → All (λ op. op_rank op < b + 1) mid → All (λ op. b + 1 ≤ op_rank op) after
    → more ≡ taken ++ before → taken ++ filter (outside (drop i all)) rest ≡ wanted → more ++ filter (outside (drop (i + 1) all)) after ≡ wanted
gap_taken from to all i s wanted rest before others mid after taken more a b h inside is e1 e2 p q low high ends past new was =
    let left = fit_drop from to all i h in
    let cut : drop i all ≡ s ∷ drop (i + 1) all = drop_more all i s inside ∙ ap (λ t. t ∷ drop (i + 1) all) (sym is) in
    let fits : fit left.0 to (s ∷ drop (i + 1) all) ≡ true = subst (λ l. fit left.0 to l ≡ true) cut left.1 in
    let step = next_gap left.0 to s (drop (i + 1) all) rest before others mid after fits e1 e2
    (subst (λ n. All (λ op. op_rank op < n) before) p low) (subst (λ n. All (λ op. n ≤ op_rank op) others) p high)
    (subst (λ n. All (λ op. op_rank op < n + 1) mid) q ends) (subst (λ n. All (λ op. n + 1 ≤ op_rank op) after) q past) in
    ap (λ l. l ++ filter (outside (drop (i + 1) all)) after) new
    ∙ append_assoc taken before (filter (outside (drop (i + 1) all)) after) ∙ ap (λ l. taken ++ l) (sym step)
    ∙ ap (λ l. taken ++ filter (outside l) rest) (sym cut) ∙ was

-- after all spans
pub rest_taken : (all : List Span) (i : ℕ) (wanted rest taken more : List Op) → length all ≤ i → more ≡ taken ++ rest → taken ++ filter (outside (drop i all)) rest ≡ wanted → more ≡ wanted
rest_taken all i wanted rest taken more done new was =
    new ∙ ap (λ l. taken ++ l) (sym (ap (λ l. filter (outside l) rest) (drop_all i all done) ∙ every rest)) ∙ was
  where
    every : (xs : List Op) → filter (outside []) xs ≡ xs
    every [] = refl
    every (x ∷ xs) = ap (λ l. x ∷ l) (every xs)
