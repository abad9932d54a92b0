-- A name comes or goes at a place of the spans.
use Rattle.std.proofs.Common.{◌≡◌, ◌≢◌, ℕ, zero, suc, ◌+◌, ◌-◌, ◌<◌, ◌≤◌, Bool, true, false, List, [], ◌∷◌, ◌++◌, length, get_or, take, drop, set, refl, sym, ap, subst, ◌∙◌, arith}
use Rattle.std.specs.List.{All, AllByRecursion, insert, remove}
use Rattle.std.proofs.Math.Seq.{drop-cons}
use Rattle.std.proofs.lemmas.List.{take-append-drop, length-drop, get_or-drop, get_or_default, drop_all, set_split}
use Rattle.std.proofs.lemmas.List.Elements.{recursion_from_All}
use Rattle.fl_labels.specs.declared.name.Name.{Name}
use Rattle.fl_opset.specs.declared.span.Span.{Span}
use Rattle.fl_opset.specs.Rank.{name_rank, last_rank, least_rank, greatest_rank}
use Rattle.fl_opset.specs.Spans.{fit}
use Rattle.fl_opset.specs.parts.Kept.{ChangeAt}
use Rattle.fl_opset.specs.laws.Fits.{fit_at}
use Rattle.fl_opset.specs.laws.ByRank.{parts_next}
use Rattle.fl_opset.proofs.Changes.{past, past_low, fit_behind, splice, Local, Starts, same, one_more, there_already, grown_down, grown_up, two_joined, one_less, cut_below, cut_above, in_two}

-- ---- nodes

pub same_node : (s : Span) (n : Name) → last_rank s + 1 ≡ name_rank n → s.first.node ≡ n.node
same_node s n next =
    (parts_next s.first.node n.node s.last n.seq s.last_in_range n.seq_in_range.0 n.seq_in_range.1 (omega arith) (omega arith)).0

pub next_node : (m n : Name) → name_rank m + 1 ≡ name_rank n → m.node ≡ n.node
next_node m n next =
    (parts_next m.node n.node m.seq n.seq m.seq_in_range.1 n.seq_in_range.0 n.seq_in_range.1 (omega arith) (omega arith)).0

pub in_node : (s : Span) (n : Name) → name_rank s.first ≤ name_rank n → name_rank n ≤ last_rank s → s.first.node ≡ n.node
in_node s n low high = omega (arith, s.first.seq_in_range.1, s.last_in_range, n.seq_in_range.0, n.seq_in_range.1)

-- the range of a name's rank
pub least : (n : Name) → least_rank ≤ name_rank n
least n = omega (arith, n.node_in_range.0, n.seq_in_range.0)

-- ---- places

-- Up to the place the spans end below the rank.
pub record Place (xs : List Span) (p r : ℕ) : Type 0 where
  pub fits : fit least_rank greatest_rank xs ≡ true
  pub below : AllByRecursion (λ s. last_rank s < r) (take p xs)

-- And a span that ends at the rank may follow.
pub record AddPlace (xs : List Span) (p r : ℕ) : Type 0 where
  pub at : Place xs p r
  pub low : past least_rank (take p xs) ≤ r

weaker : (P Q : Span → Type 0) → ((s : Span) → P s → Q s) → (xs : List Span) → AllByRecursion P xs → AllByRecursion Q xs
weaker P Q f [] h = tt
weaker P Q f (x ∷ xs) h = (f x h.0, weaker P Q f xs h.1)

pub place : (xs ys : List Span) (p r a : ℕ) → ys ≡ xs → fit least_rank greatest_rank xs ≡ true → a ≡ r
    → All (λ s. last_rank s < a) (take p ys) → Place xs p r
place xs ys p r a same fits is below = record {
  fits = fits;
  below = subst (λ l. AllByRecursion (λ s. last_rank s < r) (take p l)) same
      (subst (λ n. AllByRecursion (λ s. last_rank s < n) (take p ys)) is (recursion_from_All (λ s. last_rank s < a) (take p ys) below));
}

pub add_place : (xs ys : List Span) (p r a : ℕ) → ys ≡ xs → fit least_rank greatest_rank xs ≡ true → a ≡ r
    → least_rank ≤ r → All (λ s. last_rank s < a - 1) (take p ys) → AddPlace xs p r
add_place xs ys p r a same fits is some below =
    let near = subst (λ l. AllByRecursion (λ s. last_rank s < a - 1) (take p l)) same (recursion_from_All (λ s. last_rank s < a - 1) (take p ys) below) in
    record {
      at = record { fits = fits; below = weaker (λ s. last_rank s < a - 1) (λ s. last_rank s < r) (λ s h. omega arith) (take p xs) near };
      low = past_low least_rank r (take p xs) some
          (weaker (λ s. last_rank s < a - 1) (λ s. last_rank s + 1 < r) (λ s h. omega arith) (take p xs) near);
    }

-- what two reads of a place give
pub one_item : (xs : List Span) (p : ℕ) (s t : Span) → p < length xs → s ≡ get_or xs p s → t ≡ get_or xs p t → s ≡ t
one_item xs p s t inside is at = is ∙ get_or_default xs p s t inside ∙ sym at

-- the span at the place
pub here : (xs : List Span) (p : ℕ) (s : Span) → p < length xs → s ≡ get_or xs p s → drop p xs ≡ s ∷ drop (suc p) xs
here xs p s inside is = drop-cons xs p s inside ∙ ap (λ t. t ∷ drop (suc p) xs) (sym is)

pub ends_here : (xs ys : List Span) (p low : ℕ) (s : Span) → ys ≡ xs → All (λ s. low ≤ last_rank s) (drop p ys) → p < length xs
    → s ≡ get_or xs p s → low ≤ last_rank s
ends_here xs ys p low s same above inside is =
    let at = above 0 s (omega (arith, length-drop p ys, ap length same)) in
    let e : get_or (drop p ys) 0 s ≡ s = get_or-drop p ys 0 s ∙ ap (λ l. get_or l (p + 0) s) same ∙ ap (λ n. get_or xs n s) (omega arith) ∙ sym is in
    omega (arith, at, ap last_rank e)

pub starts_past : (xs : List Span) (p low : ℕ) → length xs ≤ p → Starts low (drop p xs)
starts_past xs p low done = subst (Starts low) (sym (drop_all p xs done)) tt

pub starts_here : (xs : List Span) (p low : ℕ) (s : Span) → p < length xs → s ≡ get_or xs p s → low ≤ name_rank s.first
    → Starts low (drop p xs)
starts_here xs p low s inside is le = subst (Starts low) (sym (here xs p s inside is)) le

-- what follows a span
pub starts_next : (xs : List Span) (p r : ℕ) (s t : Span) → Place xs p r → p < length xs → s ≡ get_or xs p s → suc p < length xs
    → t ≡ get_or xs (suc p) t → last_rank s + 1 ≡ r → name_rank t.first ≢ r + 1 → Starts (r + 2) (drop (suc p) xs)
starts_next xs p r s t at inside is more next end apart =
    let cut = here xs p s inside is ∙ ap (λ l. s ∷ l) (here xs (suc p) t more next) in
    let whole = fit_behind least_rank greatest_rank (take p xs) (drop p xs)
    (subst (λ l. fit least_rank greatest_rank l ≡ true) (sym (take-append-drop p xs)) at.fits) in
    let f = fit_at _ greatest_rank s (t ∷ drop (suc (suc p)) xs) (subst (λ l. fit (past least_rank (take p xs)) greatest_rank l ≡ true) cut whole) in
    let g = fit_at (last_rank s + 2) greatest_rank t (drop (suc (suc p)) xs) f.rest in
    starts_here xs (suc p) (r + 2) t more next (omega (arith, g.starts))

changed : (xs zs X Y : List Span) (p r : ℕ) (there : Bool) → Place xs p r → drop p xs ≡ X → zs ≡ take p xs ++ Y
    → (fit (past least_rank (take p xs)) greatest_rank X ≡ true → Local (past least_rank (take p xs)) r there X Y)
    → ChangeAt r there xs zs
changed xs zs X Y p r there at is new step =
    let whole : take p xs ++ X ≡ xs = ap (λ l. take p xs ++ l) (sym is) ∙ take-append-drop p xs in
    let fits = subst (λ l. fit least_rank greatest_rank l ≡ true) (sym whole) at.fits in
    let local = step (fit_behind least_rank greatest_rank (take p xs) X fits) in
    subst (λ l. ChangeAt r there l zs) whole
    (subst (ChangeAt r there (take p xs ++ X)) (sym new) (splice (take p xs) X Y r there fits at.below local))

-- a write to the last item of a front
set_front : (xs Z : List Span) (p : ℕ) (m : Span) → p < length xs → set (take (suc p) xs ++ Z) p m ≡ take p xs ++ m ∷ Z
set_front [] Z p m inside = absurd (omega arith)
set_front (x ∷ xs) Z zero m inside = refl
set_front (x ∷ xs) Z (suc p) m inside = ap (λ l. x ∷ l) (set_front xs Z p m (omega arith))

-- ---- a name comes

module _ (xs zs : List Span) (p r : ℕ) (at : AddPlace xs p r) where
  pub inserted : (m : Span) → name_rank m.first ≡ r → last_rank m ≡ r → Starts (r + 2) (drop p xs) → zs ≡ insert xs p m
      → ChangeAt r true xs zs
  inserted m first last next new =
      changed xs zs (drop p xs) (m ∷ drop p xs) p r true at.at refl new
      (λ h. one_more (past least_rank (take p xs)) r m (drop p xs) at.low first last next)

  module _ (s m : Span) (inside : p < length xs) (is : s ≡ get_or xs p s) where
    pub kept : name_rank s.first ≤ r → r ≤ last_rank s → zs ≡ xs → ChangeAt r true xs zs
    kept low high new =
        changed xs zs (s ∷ drop (suc p) xs) (s ∷ drop (suc p) xs) p r true at.at (here xs p s inside is)
        (new ∙ sym (take-append-drop p xs) ∙ ap (λ l. take p xs ++ l) (here xs p s inside is))
        (λ h. there_already (past least_rank (take p xs)) r s m (drop (suc p) xs) low high)

    pub down : r + 1 ≡ name_rank s.first → name_rank m.first ≡ r → last_rank m ≡ last_rank s → zs ≡ set xs p m
        → ChangeAt r true xs zs
    down next first last new =
        changed xs zs (s ∷ drop (suc p) xs) (m ∷ drop (suc p) xs) p r true at.at (here xs p s inside is) (new ∙ set_split xs p m inside)
        (λ h. grown_down (past least_rank (take p xs)) r s m (drop (suc p) xs) at.low next first last)

    pub up : last_rank s + 1 ≡ r → name_rank m.first ≡ name_rank s.first → last_rank m ≡ r → Starts (r + 2) (drop (suc p) xs)
        → zs ≡ set xs p m → ChangeAt r true xs zs
    up next first last more new =
        changed xs zs (s ∷ drop (suc p) xs) (m ∷ drop (suc p) xs) p r true at.at (here xs p s inside is) (new ∙ set_split xs p m inside)
        (λ h. grown_up (past least_rank (take p xs)) r s m (drop (suc p) xs) next first last more)

    pub both : (t : Span) (ys : List Span) → suc p < length xs → t ≡ get_or xs (suc p) t → last_rank s + 1 ≡ r
        → name_rank t.first ≡ r + 1 → name_rank m.first ≡ name_rank s.first → last_rank m ≡ last_rank t
        → ys ≡ remove xs (suc p) → zs ≡ set ys p m → ChangeAt r true xs zs
    both t ys more after next near first last less new =
        changed xs zs (s ∷ t ∷ drop (suc (suc p)) xs) (m ∷ drop (suc (suc p)) xs) p r true at.at
        (here xs p s inside is ∙ ap (λ l. s ∷ l) (here xs (suc p) t more after))
        (new ∙ ap (λ l. set l p m) less ∙ set_front xs (drop (suc (suc p)) xs) p m inside)
        (λ h. two_joined (past least_rank (take p xs)) r s m (drop (suc (suc p)) xs) t next (sym near) first last)

-- ---- a name goes

module _ (xs zs : List Span) (p r : ℕ) (at : Place xs p r) where
  pub not_there : Starts (r + 1) (drop p xs) → zs ≡ xs → ChangeAt r false xs zs
  not_there next new =
      changed xs zs (drop p xs) (drop p xs) p r false at refl (new ∙ sym (take-append-drop p xs))
      (λ h. same (past least_rank (take p xs)) r (drop p xs) h next)

  module _ (s m : Span) (inside : p < length xs) (is : s ≡ get_or xs p s) where
    pub removed : name_rank s.first ≡ r → last_rank s ≡ r → zs ≡ remove xs p → ChangeAt r false xs zs
    removed first last new =
        changed xs zs (s ∷ drop (suc p) xs) (drop (suc p) xs) p r false at (here xs p s inside is) new
        (λ h. one_less (past least_rank (take p xs)) r s m (drop (suc p) xs) h first last)

    pub without_first : name_rank s.first ≡ r → r ≤ last_rank s → name_rank m.first ≡ r + 1 → last_rank m ≡ last_rank s
        → zs ≡ set xs p m → ChangeAt r false xs zs
    without_first start le first last new =
        changed xs zs (s ∷ drop (suc p) xs) (m ∷ drop (suc p) xs) p r false at (here xs p s inside is) (new ∙ set_split xs p m inside)
        (λ h. cut_below (past least_rank (take p xs)) r s m (drop (suc p) xs) h start le first last)

    pub without_last : last_rank s ≡ r → last_rank m + 1 ≡ r → name_rank m.first ≡ name_rank s.first
        → zs ≡ set xs p m → ChangeAt r false xs zs
    without_last end last first new =
        changed xs zs (s ∷ drop (suc p) xs) (m ∷ drop (suc p) xs) p r false at (here xs p s inside is) (new ∙ set_split xs p m inside)
        (λ h. cut_above (past least_rank (take p xs)) r s m (drop (suc p) xs) h end last first)

    pub parted : (t : Span) (ys : List Span) → r ≤ last_rank s → name_rank m.first ≡ name_rank s.first → last_rank m + 1 ≡ r
        → name_rank t.first ≡ r + 1 → last_rank t ≡ last_rank s → ys ≡ insert xs (suc p) t → zs ≡ set ys p m
        → ChangeAt r false xs zs
    parted t ys le first low high last more new =
        changed xs zs (s ∷ drop (suc p) xs) (m ∷ t ∷ drop (suc p) xs) p r false at (here xs p s inside is)
        (new ∙ ap (λ l. set l p m) more ∙ set_front xs (t ∷ drop (suc p) xs) p m inside)
        (λ h. in_two (past least_rank (take p xs)) r s m (drop (suc p) xs) h t le first low high last)
