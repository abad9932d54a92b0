-- How many operations of a set another one lacks, once that has more.
use Rattle.std.proofs.Common.{◌≡◌, ◌≤◌, ◌+◌, ◌||◌, ◌&&◌, not, Bool, true, false, cond}
use Rattle.std.proofs.Common.{List, [], ◌∷◌, length, refl, sym, ap, ◌∙◌, arith}
use Rattle.std.specs.List.{Contains, filter, list_any}
use Rattle.std.specs.List.Sorted.{IsStrictlySortedBy}
use Rattle.std.specs.Ordering.{eq_by_cmp}
use Rattle.std.specs.Set.{is_member}
use Rattle.std.proofs.lemmas.Bool.{true≢false}
use Rattle.std.proofs.lemmas.Map.Keys.{IsDistinct-from_sorted}
use Rattle.std.proofs.lemmas.Map.Made.{length-le_from_is_member}
use Rattle.fl_labels.specs.Found.{Within}
use Rattle.fl_labels.specs.SetBy.{SetBy, In, contains, members}
use Rattle.fl_ops.specs.OpLaws.{op_equivalence}
use Rattle.fl_ops.specs.OpOrder.{op_cmp}
use Rattle.fl_ops.specs.declared.op.Op.{Op}
use Rattle.fl_opset.specs.laws.Members.{Contains-cons, Contains-filter, member_listed}
use Rattle.fl_machine_laws.specs.Fronts.{lacked}
use Rattle.fl_machine_laws.proofs.Lacking.{any_of}

-- an item that passes
some_of : {X : Type 0} (p : X → Bool) (xs : List X) → list_any p xs ≡ true
    → (x : X) × Contains xs x × (p x ≡ true)
some_of p [] e = absurd (true≢false (sym e))
some_of {X} p (y ∷ xs) e = by_test (p y) refl e (λ rest. some_of p xs rest)
  where
    by_test : (b : Bool) → p y ≡ b → (p y || list_any p xs) ≡ true
        → (list_any p xs ≡ true → (x : X) × Contains xs x × (p x ≡ true))
        → (x : X) × Contains (y ∷ xs) x × (p x ≡ true)
    by_test true is e more = (y, (0, omega arith, refl), is)
    by_test false is e more =
        let x = more (ap (λ b. b || list_any p xs) (sym is) ∙ e) in
        (x.0, Contains-cons y xs x.0 x.1, x.2)

none_counted : {X : Type 0} (p : X → Bool) (xs : List X) (x : X) → length (filter p xs) ≤ 0
    → Contains xs x → p x ≡ true → ⊥
none_counted p xs x none there e =
    let at = Contains-filter p xs x there e in omega (arith, none, at.1)

-- where nothing is lacked all is there
pub none_lacked : (t s : SetBy op_cmp) → lacked t s ≤ 0 → Within (In s) (In t)
none_lacked t s none op has = by_test (contains t op) refl
  where
    by_test : (b : Bool) → contains t op ≡ b → In t op
    by_test true e = e
    by_test false e =
        absurd (none_counted (λ x. not (contains t x)) (members s) op none
        (member_listed s op has) (ap not e))

module _ (t u s : SetBy op_cmp) (more : Within (In t) (In u)) where
  -- there now, and not before
  abbrev is_gained : Op → Bool
  is_gained op = contains u op && not (contains t op)

  split : (xs : List Op) → length (filter (λ x. not (contains t x)) xs)
      ≡ length (filter (λ x. not (contains u x)) xs) + length (filter is_gained xs)
  split [] = refl
  split (x ∷ xs) =
      by_tests (contains t x) (contains u x) (more x) (filter (λ y. not (contains t y)) xs)
      (filter (λ y. not (contains u y)) xs) (filter is_gained xs) (split xs)
    where
      by_tests : (b c : Bool) → (b ≡ true → c ≡ true) → (ls ms ns : List Op)
          → length ls ≡ length ms + length ns
          → length (cond (not b) (x ∷ ls) ls)
          ≡ length (cond (not c) (x ∷ ms) ms) + length (cond (c && not b) (x ∷ ns) ns)
      by_tests true true then ls ms ns e = e
      by_tests true false then ls ms ns e = absurd (true≢false (sym (then refl)))
      by_tests false true then ls ms ns e = omega (arith, e)
      by_tests false false then ls ms ns e = omega (arith, e)

  -- these were brought
  module _ (ops : List Op) (rise : IsStrictlySortedBy op_cmp ops)
      (own : (op : Op) → Contains ops op → In s op)
      (new : (op : Op) → Contains ops op → In u op × (¬ In t op)) where
    gained : (op : Op) → Contains ops op → is_gained op ≡ true
    gained op there = by_test (contains t op) refl
      where
        by_test : (b : Bool) → contains t op ≡ b → (contains u op && not (contains t op)) ≡ true
        by_test true e = absurd ((new op there).1 e)
        by_test false e =
            ap (λ b. b && not (contains t op)) (new op there).0 ∙ ap not e

    counted : (q : Op) → is_member (eq_by_cmp op_cmp) ops q ≡ true
        → is_member (eq_by_cmp op_cmp) (filter is_gained (members s)) q ≡ true
    counted q e =
        let x = some_of (eq_by_cmp op_cmp q) ops e in
        any_of (eq_by_cmp op_cmp q) (filter is_gained (members s)) x.0
        (Contains-filter is_gained (members s) x.0 (member_listed s x.0 (own x.0 x.1))
        (gained x.0 x.1)) x.2

    -- so many fewer are lacked
    pub fewer_lacked : lacked u s + length ops ≤ lacked t s
    fewer_lacked =
        let few = length-le_from_is_member op_equivalence ops (filter is_gained (members s))
        (IsDistinct-from_sorted op_cmp ops rise) counted in
        omega (arith, few, split (members s))
