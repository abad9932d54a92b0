-- An alias is placed, and then stands for what its line made, or is taken back.
use Rattle.std.proofs.Common.{◌≡◌, ◌<◌, ◌∙◌, refl, sym, ap, ℕ, Bool, true, false, cond, Option, None, Some, IsNone, IsSome, is_some, List, [], ◌∷◌, ◌++◌, length, arith}
use Rattle.std.specs.Bool.{MatchBool}
use Rattle.fl_aliases.specs.Table.{Entry, Table, target_of, retargeted, with_alias}
use Rattle.fl_aliases.specs.declared.target.Target.{Target}
use Rattle.fl_aliases.specs.laws.Placing.{placed_found, placed_set, taken_back}
use Rattle.fl_turns.specs.Naming.{IsPlaced, as_last, in_place}

is_none : {X : Type 0} (o : Option X) → IsNone o → o ≡ None
is_none None h = refl
is_none (Some x) h = absurd (cc)

-- the alias was set as the last one, or was set before
pub placed : (before after : Table) (alias : List ℕ) (target : Target) (is_new : Bool) → MatchBool is_new (IsNone (target_of before alias)) (IsSome (target_of before alias)) → MatchBool is_new (after ≡ before ++ (alias, target) ∷ []) (after ≡ before) → IsPlaced before alias is_new after
placed before after alias target true was is = rw is (as_last target (is_none _ was))
placed before after alias target false was is = rw is (in_place was)

-- either way it is set
pub placed_is_set : {before after : Table} {alias : List ℕ} {is_new : Bool} → IsPlaced before alias is_new after → IsSome (target_of after alias)
placed_is_set {before} {alias = alias} (as_last target none) = rw (placed_found before alias target none) refl
placed_is_set (in_place some) = some

-- an alias that is set is in the table
pub some_set : (table : Table) (alias : List ℕ) → IsSome (target_of table alias) → 0 < length table
some_set [] alias some = absurd (cc)
some_set (e ∷ es) alias some = omega arith

-- set then, it is as if it had been set to this at once
pub placed_then_set : {before after : Table} {alias : List ℕ} {is_new : Bool} (target : Target) → IsPlaced before alias is_new after → retargeted after alias target ≡ with_alias before alias target
placed_then_set {before} {alias = alias} target (as_last first none) = placed_set before alias first target none ∙ ap (λ o. cond (is_some o) (retargeted before alias target) (before ++ (alias, target) ∷ [])) (sym none)
placed_then_set {before} {alias = alias} target (in_place some) = ap (λ b. cond b (retargeted before alias target) (before ++ (alias, target) ∷ [])) (sym some)

-- a new one that is taken back was never there
pub placed_then_back : {before after : Table} {alias : List ℕ} {is_new : Bool} (left : Table) → is_new ≡ true → IsPlaced before alias is_new after → ((last : Entry) × (after ≡ left ++ last ∷ [])) → left ≡ before
placed_then_back {before} {alias = alias} left new (as_last target none) back = taken_back before left (alias, target) back.0 back.1
placed_then_back left new (in_place some) back = absurd (cc)

-- one that was set is as it was
pub placed_then_left : {before after : Table} {alias : List ℕ} {is_new : Bool} → is_new ≡ false → IsPlaced before alias is_new after → after ≡ before
placed_then_left old (as_last target none) = absurd (cc)
placed_then_left old (in_place some) = refl
