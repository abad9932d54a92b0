-- The least name of several predicates, and what two registries have against each other.
use Rattle.std.proofs.Common.{◌≡◌, ◌↔◌, ◌⊎◌, inl, inr, ℕ, Bool, true, false, ◌||◌, List, [], ◌∷◌, ◌++◌, Option, None, Some, refl, sym, ap, subst, ◌∙◌, arith, cond, Ordering, Less, Equal, Greater}
use Rattle.std.specs.List.{Contains}
use Rattle.std.specs.Ordering.{is_lt, ordering_reverse}
use Rattle.std.proofs.lemmas.Bool.{false≢true, or_cases}
use Rattle.std.proofs.lemmas.List.Elements.{Contains-push, Contains-push_cases, Contains-append_left}
use Rattle.fl_labels.specs.Name.{name_cmp}
use Rattle.fl_labels.specs.NameOrder.{name_total, name_exact}
use Rattle.fl_labels.specs.declared.name.Name.{Name}
use Rattle.fl_ops.specs.declared.op.Op.{Op}
use Rattle.fl_gossip.specs.Meeting.{IsLeastOf, FindsLeast, lesser_of, OfSome, IsClashOf, IsStrayOf}

-- what is below a name is below one that is not below that
below : (k m n : Name) (r : Ordering) → name_cmp m n ≡ r → is_lt (name_cmp n m) ≡ false → name_cmp k m ≡ Less → name_cmp k n ≡ Less
below k m n Less e h less = name_total.trans k m n less e
below k m n Equal e h less = subst (λ x. name_cmp k x ≡ Less) (name_exact m n e) less
below k m n Greater e h less = absurd (false≢true (sym h ∙ ap is_lt (name_total.antisymm n m ∙ ap ordering_reverse e)))

-- the least of two predicates' names is the lesser of their leasts
module _ (P Q : Name → Type 0) where
  lesser_is : (m n : Name) (b : Bool) → is_lt (name_cmp n m) ≡ b → IsLeastOf P m → IsLeastOf Q n → IsLeastOf (λ k. P k ⊎ Q k) (cond b n m)
  lesser_is m n true e p q =
      let less : name_cmp n m ≡ Less = is_less (name_cmp n m) e in
      record {
        holds = inr q.holds;
        least = λ k h before. elim h [ inl a ↦ p.least k a (name_total.trans k n m before less) | inr b ↦ q.least k b before ];
      }
    where
      is_less : (r : Ordering) → is_lt r ≡ true → r ≡ Less
      is_less Less h = refl
      is_less Equal h = absurd (cc)
      is_less Greater h = absurd (cc)
  lesser_is m n false e p q = record {
    holds = inl p.holds;
    least = λ k h before. elim h [ inl a ↦ p.least k a before | inr b ↦ q.least k b (below k m n (name_cmp m n) refl e before) ];
  }

  pub least_either : (a b : Option Name) → FindsLeast P a → FindsLeast Q b → FindsLeast (λ k. P k ⊎ Q k) (lesser_of a b)
  least_either None None p q = λ k h. elim h [ inl x ↦ p k x | inr y ↦ q k y ]
  least_either None (Some n) p q = record {
    holds = inr q.holds;
    least = λ k h before. elim h [ inl x ↦ p k x | inr y ↦ q.least k y before ];
  }
  least_either (Some m) None p q = record {
    holds = inl p.holds;
    least = λ k h before. elim h [ inl x ↦ p.least k x before | inr y ↦ q k y ];
  }
  least_either (Some m) (Some n) p q = lesser_is m n (is_lt (name_cmp n m)) refl p q

  -- predicates that hold of the same names have one least name
  pub least_same : ((k : Name) → P k → Q k) → ((k : Name) → Q k → P k) → (a : Option Name) → FindsLeast P a → FindsLeast Q a
  least_same f g None h = λ k q. h k (g k q)
  least_same f g (Some m) h = record { holds = f m h.holds; least = λ k q before. h.least k (g k q) before }

-- of two tests
pub least_of_tests : (p q : Name → Bool) (a b : Option Name) → FindsLeast (λ k. p k ≡ true) a → FindsLeast (λ k. q k ≡ true) b → FindsLeast (λ k. (p k || q k) ≡ true) (lesser_of a b)
least_of_tests p q a b h g = least_same (λ k. (p k ≡ true) ⊎ (q k ≡ true)) (λ k. (p k || q k) ≡ true)
    (λ k e. one_of (p k) (q k) e) (λ k e. or_cases (p k) (q k) e) (lesser_of a b)
    (least_either (λ k. p k ≡ true) (λ k. q k ≡ true) a b h g)
  where
    one_of : (x y : Bool) → (x ≡ true) ⊎ (y ≡ true) → (x || y) ≡ true
    one_of true y e = refl
    one_of false y (inl e) = absurd (cc)
    one_of false y (inr e) = e

-- the lesser of two is none only where both are
pub lesser_none : (a b : Option Name) → lesser_of a b ≡ None → (a ≡ None) × (b ≡ None)
lesser_none None None e = (refl, refl)
lesser_none None (Some n) e = absurd (cc)
lesser_none (Some m) None e = absurd (cc)
lesser_none (Some m) (Some n) e = absurd (cc)

-- ---- the least over many, one after another

module _ {X : Type 0} (P : X → Name → Type 0) where
  pub least_of_none : FindsLeast (OfSome P []) None
  least_of_none = λ k h. absurd (omega (arith, h.1.1))

  more_to : (xs : List X) (x : X) (k : Name) → OfSome P xs k ⊎ P x k → OfSome P (xs ++ x ∷ []) k
  more_to xs x k (inl h) = (h.0, Contains-append_left xs (x ∷ []) h.0 h.1, h.2)
  more_to xs x k (inr h) = (x, Contains-push xs x, h)

  more_from : (xs : List X) (x : X) (k : Name) → OfSome P (xs ++ x ∷ []) k → OfSome P xs k ⊎ P x k
  more_from xs x k h = elim (Contains-push_cases xs x h.0 h.1) [
    | inl old ↦ inl (h.0, old, h.2)
    | inr new ↦ inr (subst (λ y. P y k) (sym new) h.2)
  ]

  -- of one more
  pub least_of_more : (xs : List X) (x : X) (a b : Option Name) → FindsLeast (OfSome P xs) a → FindsLeast (P x) b → FindsLeast (OfSome P (xs ++ x ∷ [])) (lesser_of a b)
  least_of_more xs x a b p q = least_same (λ k. OfSome P xs k ⊎ P x k) (OfSome P (xs ++ x ∷ [])) (more_to xs x) (more_from xs x) (lesser_of a b) (least_either (OfSome P xs) (P x) a b p q)

  -- where none was found, no one has any
  pub none_of_any : (xs : List X) → FindsLeast (OfSome P xs) None → (x : X) → Contains xs x → FindsLeast (P x) None
  none_of_any xs h x c = λ k p. h k (x, c, p)

-- ---- clashes and strays

pub clash_turned : (U V : Op → Type 0) (k : Name) → IsClashOf U V k → IsClashOf V U k
clash_turned U V k c = record {
  ours = c.theirs;
  theirs = c.ours;
  in_ours = c.in_theirs;
  in_theirs = c.in_ours;
  our_name = c.their_name;
  their_name = c.our_name;
  differ = λ e. c.differ (sym e);
}

-- with what is in one of many registries
module _ {X : Type 0} (xs : List X) (V : X → Op → Type 0) where
  abbrev pub InSome : Op → Type 0
  InSome op = (x : X) × Contains xs x × V x op

  pub clash_of_some : (U : Op → Type 0) (k : Name) → IsClashOf U InSome k ↔ OfSome (λ x. IsClashOf U (V x)) xs k
  clash_of_some U k = (
    λ c. (c.in_theirs.0, c.in_theirs.1, record { ours = c.ours; theirs = c.theirs; in_ours = c.in_ours; in_theirs = c.in_theirs.2; our_name = c.our_name; their_name = c.their_name; differ = c.differ }),
    λ h. let c = h.2 in record { ours = c.ours; theirs = c.theirs; in_ours = c.in_ours; in_theirs = (h.0, h.1, c.in_theirs); our_name = c.our_name; their_name = c.their_name; differ = c.differ },
  )

  pub stray_of_some : (U : Op → Type 0) (number : ℕ) (k : Name) → IsStrayOf InSome U number k ↔ OfSome (λ x. IsStrayOf (V x) U number) xs k
  stray_of_some U number k = (
    λ c. (c.in_there.0, c.in_there.1, record { op = c.op; op_name = c.op_name; of = c.of; in_there = c.in_there.2; unknown = c.unknown }),
    λ h. let c = h.2 in record { op = c.op; op_name = c.op_name; of = c.of; in_there = (h.0, h.1, c.in_there); unknown = c.unknown },
  )
