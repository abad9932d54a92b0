-- What a map has at the key of one of its entries.
use Rattle.std.specs.List.{Contains}
use Rattle.std.proofs.Common.{◌≡◌, ◌∙◌, ◌<◌, ◌&&◌, ap, arith, length, subst, sym, ℕ, zero, suc, List, [], ◌∷◌, Bool, true, false, T, None, Some, cond, get_or, refl}
use Rattle.std.proofs.lemmas.List.{get_or-map, length-map}
use Rattle.std.specs.Cmp.{IsTotalOrder, tied_itself}
use Rattle.std.specs.FinMap as maps
use Rattle.std.specs.FinMap.{find, is_sorted, entries_sorted, get-entries}
use Rattle.std.specs.FinMap.Entries.{below_all}
use Rattle.std.specs.Ordering.{is_eq, is_lt, ordering_reverse}
use Rattle.std.specs.declared.cmp.Ordering.{Ordering}
use Rattle.std.specs.declared.cmp.Ordering.TheVariants.{Less, Equal, Greater}

pub left : (a b : Bool) → T (a && b) → T a
left true b h = tt
left false b h = absurd h

pub right : (a b : Bool) → T (a && b) → T b
right true b h = h
right false b h = absurd h

pub less : (r : Ordering) → T (is_lt r) → r ≡ Less
less Less h = refl
less Equal h = absurd h
less Greater h = absurd h

same_some : {A : Type 0} {x y : A} → Some x ≡ Some y → x ≡ y
same_some e = cc

no_some : {A : Type 0} {x : A} → None ≡ Some x → ⊥
no_some e = absurd (cc)

module _ {K X : Type 0} {R : K → K → Ordering} (total : IsTotalOrder R) where
  above : (k : K) (es : List (K × X)) (i : ℕ) (d : K × X) → i < length es
      → T (below_all R k es) → R k (get_or es i d).0 ≡ Less
  above k [] i d inside up = absurd (omega (arith, inside))
  above k (e ∷ es) zero d inside up = less _ (left _ _ up)
  above k (e ∷ es) (suc i) d inside up = above k es i d (omega (arith, inside)) (right _ _ up)

  found_at : (es : List (K × X)) → T (is_sorted R es) → (i : ℕ) (d : K × X) → i < length es
      → find R (get_or es i d).0 es ≡ Some (get_or es i d).1
  found_at [] up i d inside = absurd (omega (arith, inside))
  found_at (e ∷ es) up zero d inside =
      ap (λ o. cond (is_eq o) (Some e.1) (find R e.0 es)) (tied_itself total e.0)
  found_at (e ∷ es) up (suc i) d inside =
      let x = get_or es i d in
      let apart = total.antisymm x.0 e.0
      ∙ ap ordering_reverse (above e.0 es i d (omega (arith, inside)) (left _ _ up)) in
      ap (λ o. cond (is_eq o) (Some e.1) (find R x.0 es)) apart
      ∙ found_at es (right _ _ up) i d (omega (arith, inside))

  module _ (m : maps.FinMap R X) (i : ℕ) (k : K) (inside : i < length (maps.keys m))
      (at : k ≡ get_or (maps.keys m) i k) where
    pub within : i < length (maps.entries m)
    within = let same = length-map (maps.entries m) (λ (e : K × X). e.0) in
        omega (arith, inside, same)

    key_is : (d : K × X) → k ≡ (get_or (maps.entries m) i d).0
    key_is d = at ∙ get_or-map (λ (e : K × X). e.0) (maps.entries m) i d k within

    has : (d : K × X) → maps.get m k ≡ Some (get_or (maps.entries m) i d).1
    has d = ap (maps.get m) (key_is d)
        ∙ get-entries m (get_or (maps.entries m) i d).0
        ∙ found_at (maps.entries m) (entries_sorted m) i d within

    -- the entry at this place is what the map has at its key
    pub entry_is : (x : X) → maps.get m k ≡ Some x → (k, x) ≡ get_or (maps.entries m) i (k, x)
    entry_is x is =
        let same = same_some (sym is ∙ has (k, x)) in
        let key = key_is (k, x) in
        λ j. (key j, same j)

    pub entry_there : X → maps.get m k ≡ None → ⊥
    entry_there x is = no_some (sym is ∙ has (k, x))

  -- an entry is what the map has at its key
  pub entry_found : (m : maps.FinMap R X) (k : K) (x : X) → Contains (maps.entries m) (k, x)
      → maps.get m k ≡ Some x
  entry_found m k x h = get-entries m k
      ∙ subst (λ (e : K × X). find R e.0 (maps.entries m) ≡ Some e.1) h.2
      (found_at (maps.entries m) (entries_sorted m) h.0 (k, x) h.1)
