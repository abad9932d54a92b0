-- An alias that is placed, set and taken back.
use Rattle.std.proofs.Common.{◌≡◌, ◌≢◌, ℕ, Bool, true, false, cond, None, Some, IsSome, List, [], ◌∷◌, ◌++◌, nat_eq, get_or, drop, sym, ap, refl, ◌∙◌}
use Rattle.std.specs.Cmp.Lexicographic.{pointwise, bytes_decides, nat_list_eq_equiv}
use Rattle.std.specs.Map.{keys_of, lookup, set_value}
use Rattle.std.proofs.lemmas.Map.{lookup-set_value, keys-set_value}
use Rattle.std.proofs.lemmas.Option.{none-some}
use Rattle.fl_aliases.specs.Table.{Table, Entry, target_of, retargeted}
use Rattle.fl_aliases.specs.declared.target.Target.{Target}

itself : (letters : List ℕ) → pointwise nat_eq letters letters ≡ true
itself letters = (bytes_decides letters letters).1 refl

apart : (a b : List ℕ) → a ≢ b → pointwise nat_eq a b ≡ false
apart a b other = by (pointwise nat_eq a b) (bytes_decides a b).0
  where
    by : (r : Bool) → (r ≡ true → a ≡ b) → r ≡ false
    by true same = absurd (other (same refl))
    by false same = refl

module _ (test : List ℕ → Bool) where
  found_last : (es : Table) (entry : Entry) → test entry.0 ≡ true → lookup test es ≡ None → lookup test (es ++ entry ∷ []) ≡ Some entry.1
  found_last [] entry own none = ap (λ r. cond r (Some entry.1) None) own
  found_last (e ∷ es) entry own none = by (test e.0) none (found_last es entry own)
    where
      by : (r : Bool) → cond r (Some e.1) (lookup test es) ≡ None → (lookup test es ≡ None → lookup test (es ++ entry ∷ []) ≡ Some entry.1) → cond r (Some e.1) (lookup test (es ++ entry ∷ [])) ≡ Some entry.1
      by true none rest = absurd (none-some _ (sym none))
      by false none rest = rest none

  others_last : (es : Table) (entry : Entry) → test entry.0 ≡ false → lookup test (es ++ entry ∷ []) ≡ lookup test es
  others_last [] entry other = ap (λ r. cond r (Some entry.1) None) other
  others_last (e ∷ es) entry other = ap (λ o. cond (test e.0) (Some e.1) o) (others_last es entry other)

  set_last : (es : Table) (letters : List ℕ) (first then : Target) → test letters ≡ true → lookup test es ≡ None → set_value test (es ++ (letters, first) ∷ []) then ≡ es ++ (letters, then) ∷ []
  set_last [] letters first then own none = ap (λ r. cond r ((letters, then) ∷ []) ((letters, first) ∷ [])) own
  set_last (e ∷ es) letters first then own none = by (test e.0) none (set_last es letters first then own)
    where
      by : (r : Bool) → cond r (Some e.1) (lookup test es) ≡ None → (lookup test es ≡ None → set_value test (es ++ (letters, first) ∷ []) then ≡ es ++ (letters, then) ∷ []) → cond r ((e.0, then) ∷ (es ++ (letters, first) ∷ [])) (e ∷ set_value test (es ++ (letters, first) ∷ []) then) ≡ e ∷ (es ++ (letters, then) ∷ [])
      by true none rest = absurd (none-some _ (sym none))
      by false none rest = ap (λ l. e ∷ l) (rest none)

pub placed_found : (table : Table) (letters : List ℕ) (target : Target) → target_of table letters ≡ None → target_of (table ++ (letters, target) ∷ []) letters ≡ Some target
placed_found table letters target none = found_last (pointwise nat_eq letters) table (letters, target) (itself letters) none

pub placed_others : (table : Table) (letters other : List ℕ) (target : Target) → other ≢ letters → target_of (table ++ (letters, target) ∷ []) other ≡ target_of table other
placed_others table letters other target is = others_last (pointwise nat_eq other) table (letters, target) (apart other letters is)

pub placed_set : (table : Table) (letters : List ℕ) (first then : Target) → target_of table letters ≡ None → retargeted (table ++ (letters, first) ∷ []) letters then ≡ table ++ (letters, then) ∷ []
placed_set table letters first then none = set_last (pointwise nat_eq letters) table letters first then (itself letters) none

pub taken_back : (before after : Table) (placed last : Entry) → before ++ placed ∷ [] ≡ after ++ last ∷ [] → after ≡ before
taken_back [] [] placed last e = refl
taken_back [] (y ∷ []) placed last e = absurd (cc)
taken_back [] (y ∷ z ∷ after) placed last e = absurd (cc)
taken_back (x ∷ []) [] placed last e = absurd (cc)
taken_back (x ∷ w ∷ before) [] placed last e = absurd (cc)
taken_back (x ∷ before) (y ∷ after) placed last e = ap (λ l. l ++ after) (ap (λ x. x ∷ []) (sym (ap (λ l. get_or l 0 x) e))) ∙ ap (λ l. x ∷ l) (taken_back before after placed last (ap (drop 1) e))

pub set_found : (table : Table) (letters : List ℕ) (target : Target) → IsSome (target_of table letters) → target_of (retargeted table letters target) letters ≡ Some target
set_found table letters target some =
    lookup-set_value nat_list_eq_equiv (pointwise nat_eq letters) (nat_list_eq_equiv.congr letters) letters target table some
    ∙ ap (λ r. cond r (Some target) (target_of table letters)) (itself letters)

pub set_others : (table : Table) (letters other : List ℕ) (target : Target) → IsSome (target_of table letters) → other ≢ letters → target_of (retargeted table letters target) other ≡ target_of table other
set_others table letters other target some is =
    lookup-set_value nat_list_eq_equiv (pointwise nat_eq letters) (nat_list_eq_equiv.congr letters) other target table some
    ∙ ap (λ r. cond r (Some target) (target_of table other)) (apart letters other (λ e. is (sym e)))

pub set_places : (table : Table) (letters : List ℕ) (target : Target) → keys_of (retargeted table letters target) ≡ keys_of table
set_places table letters target = keys-set_value (pointwise nat_eq letters) table target
