-- What a search along a rising list says of its set.
use Rattle.std.proofs.Common.{arith, ℕ, zero, suc, ◌+◌, ◌<◌, ◌≤◌, length, get_or, drop, ◌≡◌, ◌⊎◌, inl, inr, Bool, true, false, cond, ◌||◌, List, [], ◌∷◌, refl, sym, ap, subst, ◌∙◌, Option, Some, None, Ordering, Less, Equal, Greater}
use Rattle.std.specs.Cmp.{IsTotalOrder, Equal-is, tied_itself, upto}
use Rattle.std.specs.FinMap.{IsAntisymmetric}
use Rattle.std.specs.List.{list_any, AllByRecursion}
use Rattle.std.specs.List.Sorted.{IsStrictlySortedBy}
use Rattle.std.specs.Ordering.{eq_by_cmp, is_eq, is_gt, is_lt, ordering_reverse}
use Rattle.std.proofs.lemmas.Bool.{or_cases, false≢true}
use Rattle.std.proofs.lemmas.List.{drop_more}
use Rattle.std.proofs.lemmas.Map.Keys.{sorted_head, sorted_tail}
use Rattle.fl_labels.specs.SetBy.{SetBy, contains, members, members_rise, contains-members}
use Rattle.fl_labels.specs.Found.{Found, FoundAs}
use Rattle.fl_labels.specs.parts.First.{IsFirst, lesser_of}

-- the same search in other words
pub found_as : {K : Type 0} {R : K → K → Ordering} {P Q P' Q' : K → Type 0} (r : Option K)
    → ((x : K) → P x → P' x) → ((x : K) → P' x → P x) → ((x : K) → Q x → Q' x)
    → ((x : K) → Q' x → Q x) → Found R P Q r → Found R P' Q' r
found_as None to from there back found = record { is = λ x p. there x (found.is x (from x p)) }
found_as (Some x) to from there back found = record {
  is = record {
    member = to x found.is.member;
    lacking = λ q. found.is.lacking (back x q);
    least = λ y p q. found.is.least y (from y p) (λ t. q (there y t));
  };
}

module _ {K : Type 0} {R : K → K → Ordering} (o : IsTotalOrder R) (exact : IsAntisymmetric R) where
  abbrev IsAmong : K → List K → Type 0
  IsAmong q xs = list_any (eq_by_cmp R q) xs ≡ true

  by_place : {P : Type 0} (q x : K) (xs : List K) → IsAmong q (x ∷ xs) → (q ≡ x → P)
      → (IsAmong q xs → P) → P
  by_place q x xs h first later =
      elim (or_cases _ _ h) [ inl e ↦ first (exact q x ((Equal-is (R q x)).0 e)) | inr e ↦ later e ]

  above : (x q : K) (xs : List K) → AllByRecursion (λ y. R x y ≡ Less) xs → IsAmong q xs
      → R x q ≡ Less
  above x q [] all h = absurd (false≢true h)
  above x q (y ∷ xs) all h = by_place q y xs h (λ e. ap (R x) e ∙ all.0) (above x q xs all.1)

  or_later : (b : Bool) {c : Bool} → c ≡ true → (b || c) ≡ true
  or_later true h = refl
  or_later false h = h

  here : (x : K) (xs : List K) → IsAmong x (x ∷ xs)
  here x xs = ap (λ r. is_eq r || list_any (eq_by_cmp R x) xs) (tied_itself o x)

  module _ (P Q : K → Type 0) where
    abbrev Listed : List K → K → Type 0
    Listed xs x = IsAmong x xs × P x

    searched : (xs : List K) (r : Option K) → IsStrictlySortedBy R xs → IsFirst P Q xs r
        → FoundAs R (Listed xs) Q r
    searched [] None up e = λ q h. absurd (false≢true h.0)
    searched [] (Some x) up e = absurd (cc)
    searched (x ∷ xs) r up (inl h) = subst (FoundAs R (Listed (x ∷ xs)) Q) (sym h.0) (record {
      member = (here x xs, h.1.0);
      lacking = h.1.1;
      least = λ y p _. by_place y x xs p.0 (λ e. ap is_gt (ap (R x) e ∙ tied_itself o x))
          (λ p. ap is_gt (above x y xs (sorted_head R x xs up) p));
    })
    searched (x ∷ xs) None up (inr h) =
        let rest = searched xs None (sorted_tail R x xs up) h.1 in
        λ q p. by_place q x xs p.0 (λ e. subst Q (sym e) (h.0 (subst P e p.1)))
        (λ a. rest q (a, p.1))
    searched (x ∷ xs) (Some k) up (inr h) =
        let rest = searched xs (Some k) (sorted_tail R x xs up) h.1 in
        record {
          member = (or_later (eq_by_cmp R k x) rest.member.0, rest.member.1);
          lacking = rest.lacking;
          least = λ y p q. by_place y x xs p.0
              (λ e. absurd (q (subst Q (sym e) (h.0 (subst P e p.1)))))
              (λ a. rest.least y (a, p.1) q);
        }

    -- a search along the members of a set
    pub searched_set : (s : SetBy R) (xs : List K) (r : Option K) → xs ≡ members s
        → IsFirst P Q xs r → Found R (λ x. (contains s x ≡ true) × P x) Q r
    searched_set s xs r e h =
        found_as r (λ x p. (contains-members s x ∙ p.0, p.1))
        (λ x p. (sym (contains-members s x) ∙ p.0, p.1)) (λ x q. q) (λ x q. q)
        (record { is = searched (members s) r (members_rise s) (subst (λ l. IsFirst P Q l r) e h) })

  not_above : (x y : K) → is_lt (R y x) ≡ false → is_gt (R x y) ≡ false
  not_above x y e = ap is_gt (o.antisymm x y) ∙ turned (R y x) e
    where
      turned : (r : Ordering) → is_lt r ≡ false → is_gt (ordering_reverse r) ≡ false
      turned Less e = absurd (cc)
      turned Equal e = refl
      turned Greater e = refl

  below : (x y : K) → is_lt (R y x) ≡ true → is_gt (R y x) ≡ false
  below x y e = turned (R y x) e
    where
      turned : (r : Ordering) → is_lt r ≡ true → is_gt r ≡ false
      turned Less e = refl
      turned Equal e = refl
      turned Greater e = absurd (false≢true e)

  both_as : (P P' Q : K → Type 0) (a b : Option K) → FoundAs R P Q a → FoundAs R P' Q b
      → FoundAs R (λ x. P x ⊎ P' x) Q (lesser_of R a b)
  both_as P P' Q None None p q = λ x h. elim h [ inl h ↦ p x h | inr h ↦ q x h ]
  both_as P P' Q None (Some y) p q = record {
    member = inr q.member;
    lacking = q.lacking;
    least = λ z h n. elim h [ inl h ↦ absurd (n (p z h)) | inr h ↦ q.least z h n ];
  }
  both_as P P' Q (Some x) None p q = record {
    member = inl p.member;
    lacking = p.lacking;
    least = λ z h n. elim h [ inl h ↦ p.least z h n | inr h ↦ absurd (n (q z h)) ];
  }
  both_as P P' Q (Some x) (Some y) p q = go (is_lt (R y x)) refl
    where
      go : (b : Bool) → is_lt (R y x) ≡ b → FoundAs R (λ x. P x ⊎ P' x) Q (cond b (Some y) (Some x))
      go true e = record {
        member = inr q.member;
        lacking = q.lacking;
        least = λ z h n. elim h [
          | inl h ↦ upto o y x z (below x y e) (p.least z h n)
          | inr h ↦
              q.least z h n
        ];
      }
      go false e = record {
        member = inl p.member;
        lacking = p.lacking;
        least = λ z h n. elim h [
          | inl h ↦ p.least z h n
          | inr h ↦
              upto o x y z (not_above x y e) (q.least z h n)
        ];
      }

  -- the lesser of what two searches found is what one search would find
  pub both_found : {P P' Q : K → Type 0} (a b : Option K) → Found R P Q a → Found R P' Q b
      → Found R (λ x. P x ⊎ P' x) Q (lesser_of R a b)
  both_found {P} {P'} {Q} a b p q = record { is = both_as P P' Q a b p.is q.is }

-- one step of a search along a list
module _ {K : Type 0} (P Q : K → Type 0) (xs : List K) (i : ℕ) (x : K) (within : i < length xs)
    (is : x ≡ get_or xs i x) where
  rest_is : drop i xs ≡ x ∷ drop (i + 1) xs
  rest_is = drop_more xs i x within ∙ ap (λ y. y ∷ drop (i + 1) xs) (sym is)

  pub passed_by : (P x → Q x) → (r : Option K) → IsFirst P Q (drop (i + 1) xs) r
      → IsFirst P Q (drop i xs) r
  passed_by h r rest = subst (λ l. IsFirst P Q l r) (sym rest_is) (inr (h, rest))

  pub stopped_at : P x → ¬ Q x → IsFirst P Q (drop i xs) (Some x)
  stopped_at p q = subst (λ l. IsFirst P Q l (Some x)) (sym rest_is) (inl (refl, (p, q)))

pub at_end : {K : Type 0} (P Q : K → Type 0) (xs : List K) (i : ℕ) → length xs ≤ i
    → IsFirst P Q (drop i xs) None
at_end P Q [] zero h = refl
at_end P Q [] (suc i) h = refl
at_end P Q (x ∷ xs) zero h = absurd (omega (arith, h))
at_end P Q (x ∷ xs) (suc i) h = at_end P Q xs i (omega (arith, h))
