-- The entries of an ordered map as a finite map: what a look, a write and a removal in the code say of the map, and the order of
-- what it lists. For maps of any keys, so that the crates above use it too.
use Rattle.std.proofs.Common.{arith, ◌≡◌, Bool, true, false, cond, List, [], ◌∷◌, length, refl, sym, ap, ◌∙◌, Some, None, Ordering, Less}
use Rattle.std.specs.Cmp.{IsTotalOrder, eq_by_cmp_equiv, Equal-is, tied_itself}
use Rattle.std.specs.List.{AllByRecursion}
use Rattle.std.specs.List.Sorted.{IsStrictlySortedBy}
use Rattle.std.specs.Ordering.{eq_by_cmp, is_eq}
use Rattle.std.specs.FinMap as map
use Rattle.std.specs.FinMap.{IsAntisymmetric, find, put, get-from_entries, get-insert, get-remove, entries-insert, len-entries, len-empty, same_map}
use Rattle.std.specs.FinMap.Entries.{by_order}
use Rattle.std.specs.BTreeMap.{is_at}
use Rattle.std.specs.Map.{keys_of, lookup, set_value}
use Rattle.std.proofs.lemmas.Bool.{false≢true}
use Rattle.std.proofs.lemmas.Map.Keys.{sorted_head, sorted_tail}

entries_empty : {K : Type 0} (R : K → K → Ordering) (X : Type 0)
    → map.entries (map.empty {X = X} {R = R}) ≡ []
entries_empty {K} R X = no_length _ (sym (len-entries (map.empty {X = X} {R = R})) ∙ len-empty R X)
  where
    no_length : (es : List (K × X)) → length es ≡ 0 → es ≡ []
    no_length [] e = refl
    no_length (x ∷ es) e = absurd (omega (arith, e))

module _ {K X : Type 0} {R : K → K → Ordering} (o : IsTotalOrder R)
    (exact : IsAntisymmetric R) where
  find_entry : (es : List (K × X)) (q : K) → find R q es ≡ lookup (is_at (R q)) es
  find_entry [] q = refl
  find_entry (e ∷ es) q = ap (cond (is_at (R q) e.0) (Some e.1)) (find_entry es q)

  pub get_entry : (es : List (K × X)) (q : K)
      → map.get (map.from_entries {R = R} es) q ≡ lookup (is_at (R q)) es
  get_entry es q = get-from_entries o es q ∙ find_entry es q

  pub get_held : (es : List (K × X)) (m : map.FinMap R X) (q : K) → map.from_entries es ≡ m
      → lookup (is_at (R q)) es ≡ map.get m q
  get_held es m q e = sym (get_entry es q) ∙ ap (λ m. map.get m q) e

  -- one value was put
  pub one_put : (es fs : List (K × X)) (m : map.FinMap R X) (k : K) (x : X)
      → map.from_entries es ≡ m
      → ((q : K) → lookup (is_at (R q)) fs ≡ cond (is_at (R k) q) (Some x)
      (lookup (is_at (R q)) es))
      → map.from_entries fs ≡ map.insert m k x
  one_put es fs m k x e h = same_map o exact _ _ (λ q.
      get_entry fs q ∙ h q ∙ ap (λ b. cond b (Some x) (lookup (is_at (R q)) es))
      ((eq_by_cmp_equiv o).symm k q)
      ∙ ap (cond (eq_by_cmp R q k) (Some x)) (get_held es m q e) ∙ sym (get-insert o m k x q))

  -- one value was taken away
  pub one_gone : (es fs : List (K × X)) (m : map.FinMap R X) (k : K) → map.from_entries es ≡ m
      → ((q : K) → lookup (is_at (R q)) fs ≡ cond (is_at (R k) q) None (lookup (is_at (R q)) es))
      → map.from_entries fs ≡ map.remove m k
  one_gone es fs m k e h = same_map o exact _ _ (λ q.
      get_entry fs q ∙ h q ∙ ap (λ b. cond b None (lookup (is_at (R q)) es))
      ((eq_by_cmp_equiv o).symm k q)
      ∙ ap (cond (eq_by_cmp R q k) None) (get_held es m q e) ∙ sym (get-remove o m k q))

  -- to put what is there changes nothing
  pub put_same : (m : map.FinMap R X) (k : K) (x : X) → map.get m k ≡ Some x → map.insert m k x ≡ m
  put_same m k x e = same_map o exact _ _ (λ q. get-insert o m k x q ∙ go q (eq_by_cmp R q k) refl)
    where
      go : (q : K) (b : Bool) → eq_by_cmp R q k ≡ b → cond b (Some x) (map.get m q) ≡ map.get m q
      go q true h = sym e ∙ ap (map.get m) (sym (exact q k ((Equal-is (R q k)).0 h)))
      go q false h = refl

  -- what was put is there
  pub get_put : (m : map.FinMap R X) (k : K) (x : X) → map.get (map.insert m k x) k ≡ Some x
  get_put m k x = get-insert o m k x k
      ∙ ap (λ b. cond b (Some x) (map.get m k)) (ap is_eq (tied_itself o k))

  -- to put twice is to put the second
  pub put_over : (m : map.FinMap R X) (k : K) (x y : X)
      → map.insert (map.insert m k x) k y ≡ map.insert m k y
  put_over m k x y = same_map o exact _ _ (λ q.
      get-insert o (map.insert m k x) k y q
      ∙ ap (cond (eq_by_cmp R q k) (Some y)) (get-insert o m k x q)
      ∙ twice (eq_by_cmp R q k) q ∙ sym (get-insert o m k y q))
    where
      twice : (b : Bool) (q : K)
          → cond b (Some y) (cond b (Some x) (map.get m q)) ≡ cond b (Some y) (map.get m q)
      twice true q = refl
      twice false q = refl

  -- a value written over that of a key
  written : (es : List (K × X)) (k : K) (x w : X) (q : K) → lookup (is_at (R k)) es ≡ Some x
      → lookup (is_at (R q)) (set_value (is_at (R k)) es w) ≡ cond (is_at (R k) q) (Some w)
      (lookup (is_at (R q)) es)
  written [] k x w q e = absurd (cc)
  written ((j, y) ∷ es) k x w q e = go (is_at (R k) j) refl e (written es k x w q)
    where
      go : (b : Bool) → is_at (R k) j ≡ b → cond b (Some y) (lookup (is_at (R k)) es) ≡ Some x
          → (lookup (is_at (R k)) es ≡ Some x
          → lookup (is_at (R q)) (set_value (is_at (R k)) es w) ≡ cond (is_at (R k) q) (Some w)
          (lookup (is_at (R q)) es))
          → lookup (is_at (R q)) (cond b ((j, w) ∷ es)
          ((j, y) ∷ set_value (is_at (R k)) es w)) ≡ cond (is_at (R k) q) (Some w) (cond
          (is_at (R q) j) (Some y) (lookup (is_at (R q)) es))
      go true h e rest = same (exact k j ((Equal-is (R k j)).0 h))
        where
          same : k ≡ j
              → cond (is_at (R q) j) (Some w) (lookup (is_at (R q)) es) ≡ cond (is_at (R k) q)
              (Some w) (cond (is_at (R q) j) (Some y) (lookup (is_at (R q)) es))
          same s = two (is_at (R q) j) (is_at (R k) q)
              (ap (is_at (R q)) (sym s) ∙ (eq_by_cmp_equiv o).symm q k)
            where
              two : (a b : Bool) → a ≡ b
                  → cond a (Some w) (lookup (is_at (R q)) es) ≡ cond b (Some w)
                  (cond a (Some y) (lookup (is_at (R q)) es))
              two true true e = refl
              two false false e = refl
              two true false e = absurd (cc)
              two false true e = absurd (cc)
      go false h e rest = two (is_at (R q) j) (is_at (R k) q) refl refl
        where
          two : (a b : Bool) → is_at (R q) j ≡ a → is_at (R k) q ≡ b
              → cond a (Some y) (lookup (is_at (R q)) (set_value (is_at (R k)) es w)) ≡ cond b
              (Some w) (cond a (Some y) (lookup (is_at (R q)) es))
          two true true p r =
              absurd (false≢true (sym h
              ∙ ap (is_at (R k)) (sym (exact q j ((Equal-is (R q j)).0 p))) ∙ r))
          two true false p r = refl
          two false true p r = rest e ∙ ap (λ b. cond b (Some w) (lookup (is_at (R q)) es)) r
          two false false p r = rest e ∙ ap (λ b. cond b (Some w) (lookup (is_at (R q)) es)) r

  pub put_through : (es fs : List (K × X)) (m : map.FinMap R X) (k : K) (x w : X)
      → map.from_entries es ≡ m
      → lookup (is_at (R k)) es ≡ Some x → fs ≡ set_value (is_at (R k)) es w
      → map.from_entries fs ≡ map.insert m k w
  put_through es fs m k x w e there f =
      one_put es fs m k w e (λ q. ap (lookup (is_at (R q))) f ∙ written es k x w q there)

  -- a map of no entry has nothing at any key
  pub nothing_held : (es : List (K × X)) (m : map.FinMap R X) → map.from_entries es ≡ m
      → length es ≡ 0 → (q : K)
      → map.get m q ≡ None
  nothing_held [] m e none q = ap (λ m. map.get m q) (sym e) ∙ get_entry [] q
  nothing_held (x ∷ es) m e none q = absurd (omega (arith, none))

  -- a map of some entry has its key
  pub something_held : (es : List (K × X)) (m : map.FinMap R X) → map.from_entries es ≡ m
      → ¬ (length es ≡ 0)
      → (q : K) × ((x : X) × (map.get m q ≡ Some x))
  something_held [] m e some = absurd (some refl)
  something_held ((k, x) ∷ es) m e some = (
    k,
    (
      x,
      sym (get_held ((k, x) ∷ es) m k e)
          ∙ ap (λ r. cond (is_eq r) (Some x) (lookup (is_at (R k)) es)) (tied_itself o k),
    ),
  )

  front_put : (k : K) (x : X) (es : List (K × X)) → AllByRecursion (λ y. R k y ≡ Less) (keys_of es)
      → put R k x es ≡ (k, x) ∷ es
  front_put k x [] all = refl
  front_put k x (e ∷ es) all =
      ap (λ r. by_order r ((k, x) ∷ e ∷ es) ((e.0, x) ∷ es) (e ∷ put R k x es)) all.0

  -- entries in order are those of their map
  in_order : (es : List (K × X)) → IsStrictlySortedBy R (keys_of es)
      → map.entries (map.from_entries {R = R} es) ≡ es
  in_order [] up = entries_empty R X
  in_order ((k, x) ∷ es) up =
      entries-insert o (map.from_entries es) k x
      ∙ ap (put R k x) (in_order es (sorted_tail R k (keys_of es) up))
      ∙ front_put k x es (sorted_head R k (keys_of es) up)

  pub entries_held : (es : List (K × X)) (m : map.FinMap R X) → map.from_entries es ≡ m
      → IsStrictlySortedBy R (keys_of es) → es ≡ map.entries m
  entries_held es m e up = sym (in_order es up) ∙ ap (map.entries) e
