-- The least of what items of a list give, item by item.
use Rattle.std.specs.Prelude.{◌≡◌, ◌⊎◌, Bool, true, false, cond, List, [], ℕ, ◌+◌, ◌<◌, ◌≤◌, length, get_or, take, refl, Option, None, Some, MatchOption}
use Rattle.std.proofs.Common.{inl, inr, sym, ap, subst, ◌∙◌}
use Rattle.std.specs.Cmp.{IsTotalOrder, tied_itself, upto}
use Rattle.std.specs.List.{Contains}
use Rattle.std.specs.Ordering.{is_gt, is_lt, ord_min, ordering_reverse}
use Rattle.std.specs.declared.cmp.Ordering.{Ordering}
use Rattle.std.specs.declared.cmp.Ordering.TheVariants.{Less, Equal, Greater}
use Rattle.fl_chains.specs.Least.{IsLeast, FindsLeast}
use Rattle.fl_chains.proofs.Members.{none, more_cases, more_before, more_this, all_there, of_all}

-- one of the items gives x
abbrev pub OneOf : {Y K : Type 0} → (Y → K → Type 0) → List Y → K → Type 0
OneOf {Y} Q xs x = (y : Y) × Contains xs y × Q y x

-- the same condition in other words
pub least_same : {K : Type 0} (R : K → K → Ordering) {P P' : K → Type 0} (r : Option K)
    → ((x : K) → P x → P' x) → ((x : K) → P' x → P x)
    → FindsLeast R P r → FindsLeast R P' r
least_same R None to from h = λ x p. h x (from x p)
least_same R (Some r) to from h =
    record { member = to r h.member; least = λ y p. h.least y (from y p) }

not_lt : (r : Ordering) → is_lt (ordering_reverse r) ≡ false → is_gt r ≡ false
not_lt Less e = refl
not_lt Equal e = refl
not_lt Greater e = absurd (cc)

lt_not_gt : (r : Ordering) → is_lt r ≡ true → is_gt r ≡ false
lt_not_gt Less e = refl
lt_not_gt Equal e = absurd (cc)
lt_not_gt Greater e = absurd (cc)

module _ {Y K : Type 0} {R : K → K → Ordering} (o : IsTotalOrder R) (Q : Y → K → Type 0) where
  pub least_none : FindsLeast R (OneOf Q []) None
  least_none x h = none h.0 h.1

  pub least_all : (xs : List Y) (i : ℕ) (r : Option K) → length xs ≤ i
      → FindsLeast R (OneOf Q (take i xs)) r → FindsLeast R (OneOf Q xs) r
  least_all xs i r whole h =
      least_same R r (λ x p. (p.0, of_all xs i p.0 whole p.1, p.2))
      (λ x p. (p.0, all_there xs i p.0 whole p.1, p.2)) h

  tied : (x y : K) → y ≡ x → is_gt (R x y) ≡ false
  tied x y e = ap is_gt (ap (R x) e ∙ tied_itself o x)

  module _ (xs : List Y) (i : ℕ) (y : Y) (within : i < length xs) (at : y ≡ get_or xs i y) where
    before : (x : K) → OneOf Q (take i xs) x → OneOf Q (take (i + 1) xs) x
    before x p = (p.0, more_before xs i y within at p.0 p.1, p.2)

    cases : (x : K) → OneOf Q (take (i + 1) xs) x → OneOf Q (take i xs) x ⊎ Q y x
    cases x p = elim (more_cases xs i y within at p.0 p.1) [
      | inl m ↦ inl (p.0, m, p.2)
      | inr e ↦ inr (subst (λ z. Q z x) (sym e) p.2)
    ]

    -- this one gives nothing
    pub least_passed : (r : Option K) → ((x : K) → ¬ Q y x) → FindsLeast R (OneOf Q (take i xs)) r
        → FindsLeast R (OneOf Q (take (i + 1) xs)) r
    least_passed r nothing h =
        least_same R r before (λ x p. elim (cases x p) [ inl q ↦ q | inr q ↦ absurd (nothing x q) ])
        h

    -- this one gives `next` alone
    module _ (next : K) (gives : Q y next) (alone : (x : K) → Q y x → x ≡ next) where
      this : OneOf Q (take (i + 1) xs) next
      this = (y, more_this xs i y within at y refl, gives)

      alone_least : ((x : K) → ¬ OneOf Q (take i xs) x) → IsLeast R (OneOf Q (take (i + 1) xs)) next
      alone_least none = record {
        member = this;
        least = λ x p. elim (cases x p)
            [ inl q ↦ absurd (none x q) | inr q ↦ tied next x (alone x q) ];
      }

      next_least : (b : K) → IsLeast R (OneOf Q (take i xs)) b → is_lt (R next b) ≡ true
          → IsLeast R (OneOf Q (take (i + 1) xs)) next
      next_least b h e = record {
        member = this;
        least = λ x p. elim (cases x p) [
          | inl q ↦ upto o next b x (lt_not_gt (R next b) e) (h.least x q)
          | inr q ↦ tied next x (alone x q)
        ];
      }

      best_least : (b : K) → IsLeast R (OneOf Q (take i xs)) b → is_lt (R next b) ≡ false
          → IsLeast R (OneOf Q (take (i + 1) xs)) b
      best_least b h e = record {
        member = before b h.member;
        least = λ x p. elim (cases x p) [
          | inl q ↦ h.least x q
          | inr q ↦ subst (λ z. is_gt (R b z) ≡ false) (sym (alone x q))
              (not_lt (R b next) (ap is_lt (sym (o.antisymm next b)) ∙ e))
        ];
      }

      choose : (b : K) (t : Bool) → is_lt (R next b) ≡ t → IsLeast R (OneOf Q (take i xs)) b
          → IsLeast R (OneOf Q (take (i + 1) xs)) (cond t next b)
      choose b true e h = next_least b h e
      choose b false e h = best_least b h e

      pub least_taken : (best : Option K) (r : K) → FindsLeast R (OneOf Q (take i xs)) best
          → MatchOption best (r ≡ next) (λ b. r ≡ ord_min R b next)
          → FindsLeast R (OneOf Q (take (i + 1) xs)) (Some r)
      least_taken None r h is = subst (IsLeast R (OneOf Q (take (i + 1) xs))) (sym is)
          (alone_least h)
      least_taken (Some b) r h is = subst (IsLeast R (OneOf Q (take (i + 1) xs))) (sym is)
          (choose b (is_lt (R next b)) refl h)

-- an item gives itself, where it meets P
abbrev pub Itself : {K : Type 0} → (K → Type 0) → K → K → Type 0
Itself P y x = P y × (y ≡ x)

pub least_itself : {K : Type 0} (R : K → K → Ordering) (P : K → Type 0) (xs : List K) (r : Option K)
    → FindsLeast R (OneOf (Itself P) xs) r
    → FindsLeast R (λ x. Contains xs x × P x) r
least_itself R P xs r h = least_same R r
    (λ x p. (subst (Contains xs) p.2.1 p.1, subst P p.2.1 p.2.0)) (λ x p. (x, p.0, (p.1, refl))) h
