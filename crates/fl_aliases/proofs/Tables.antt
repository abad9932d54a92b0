-- Tables that change.
use Rattle.std.proofs.Common.{◌≡◌, ℕ, ◌<◌, ◌≤◌, Bool, true, false, cond, Option, None, Some, is_some, IsSome, Result, Ok, Err, IsOk, OnOk, OnErr, List, [], ◌∷◌, ◌++◌, length, sym, ap, subst, refl, ◌∙◌, length-append, append_assoc, nat_eq, true≢false, arith}
use Rattle.std.specs.Result.{IsErr}
use Rattle.std.specs.Option.{option_to_list}
use Rattle.std.specs.Cmp.Lexicographic.{pointwise}
use Rattle.std.specs.List.{IsDistinct}
use Rattle.std.specs.Map.{keys_of, lookup, set_value}
use Rattle.indexmap.specs.IndexMap.{IndexMap, insert_entry}
use Rattle.std.proofs.lemmas.Map.{length-set_value}
use Rattle.indexmap.proofs.CallerLemmas.{insert_entry-new}
use Rattle.fl_sink.specs.Sink.{Passes, Cuts, Puts}
use Rattle.fl_sink.specs.laws.Passing.{passes_then, puts_then, puts_stop}
use Rattle.fl_aliases.specs.Table.{Table, Entry, IsTable, target_of, retargeted, with_alias, entry_line, table_text}
use Rattle.fl_aliases.specs.declared.target.Target.{Target}

-- what is taken from a list's end was there
pub last_one : {X : Type 0} (inside old new : List X) (r : Option X) → inside ≡ old → inside ≡ new ++ option_to_list r → IsSome r → (x : X) × (old ≡ new ++ x ∷ [])
last_one inside old new (Some x) e split there = (x, sym e ∙ split)
last_one inside old new None e split there = absurd (true≢false (sym there))

pub is_none : {X : Type 0} (o : Option X) → is_some o ≡ false → o ≡ None
is_none None e = refl
is_none (Some x) e = absurd (cc)

module _ {K X : Type 0} (eq : K → K → Bool) (k : K) (v : X) where
  -- a key that is there keeps its place, and takes the value
  pub inserted_there : (es : List (K × X)) → IsSome (lookup (eq k) es) → insert_entry eq es k v ≡ set_value (eq k) es v
  inserted_there [] there = absurd (true≢false (sym there))
  inserted_there (e ∷ es) there = by (eq k e.0) there (inserted_there es)
    where
      by : (b : Bool) → is_some (cond b (Some e.1) (lookup (eq k) es)) ≡ true → (IsSome (lookup (eq k) es) → insert_entry eq es k v ≡ set_value (eq k) es v)
          → cond b ((e.0, v) ∷ es) (e ∷ insert_entry eq es k v) ≡ cond b ((e.0, v) ∷ es) (e ∷ set_value (eq k) es v)
      by true found later = refl
      by false found later = ap (λ l. e ∷ l) (later found)

-- a request that is refused only for want of room is not refused where there is room
pub has_room : {T E : Type 0} (r : Result T E) (absent : Type 0) (room : ℕ) → OnErr r absent → (absent → 0 < room) → (0 < room → IsOk r) → IsOk r
has_room (Ok x) absent room why some done = refl
has_room (Err e) absent room why some done = done (some why)

pub from_ok : {T E : Type 0} (r : Result T E) (P : Type 0) → IsOk r → OnOk r P → P
from_ok (Ok x) P ok h = h
from_ok (Err e) P ok h = absurd (cc)

-- a map's insert has the alias stand for the target
pub inserted : {S : Type 0} (map : IndexMap (List ℕ) Target S) (alias : List ℕ) (target : Target) → insert_entry (pointwise nat_eq) map.entries alias target ≡ with_alias map.entries alias target
inserted map alias target = by (target_of map.entries alias) refl
  where
    by : (found : Option Target) → target_of map.entries alias ≡ found → insert_entry (pointwise nat_eq) map.entries alias target ≡ with_alias map.entries alias target
    by (Some was) e = inserted_there (pointwise nat_eq) alias target map.entries (ap is_some e) ∙ sym (ap (λ b. cond b (retargeted map.entries alias target) (map.entries ++ (alias, target) ∷ [])) (ap is_some e))
    by None e = insert_entry-new (pointwise nat_eq) map alias target e ∙ sym (ap (λ b. cond b (retargeted map.entries alias target) (map.entries ++ (alias, target) ∷ [])) (ap is_some e))

-- with one alias more there are no more than may be
pub few_with : (table : Table) (alias : List ℕ) (target : Target) → (target_of table alias ≡ None → length table < 1024) → length table ≤ 1024 → length (with_alias table alias target) ≤ 1024
few_with table alias target few short = by (target_of table alias) few
  where
    by : (found : Option Target) → (found ≡ None → length table < 1024) → length (cond (is_some found) (retargeted table alias target) (table ++ (alias, target) ∷ [])) ≤ 1024
    by (Some was) few = omega (arith, short, length-set_value (pointwise nat_eq alias) table target)
    by None few = omega (arith, few refl, length-append table ((alias, target) ∷ []))

-- one more fits
pub grown : (old new : Table) (entry : Entry) → length old < 1024 → new ≡ old ++ entry ∷ [] → IsDistinct (pointwise nat_eq) (keys_of new) → IsTable new
grown old new entry room e once = record {
  short = omega (arith, ap length e, length-append old (entry ∷ []));
  once = once;
}

-- a line passed, and those that are left come behind it
pub lines_more : (a b c : Option (List ℕ)) (pending rest after done all : List ℕ) (entry : Entry) (left new : Table) → Passes a b pending done rest → all ≡ done ++ table_text left → left ≡ entry ∷ new → Passes b c rest (entry_line entry) after
    → (more : List ℕ) × Passes a c pending more after × (all ≡ more ++ table_text new)
lines_more a b c pending rest after done all entry left new passed so_far next line =
    (done ++ entry_line entry, passes_then c _ _ passed line, so_far ∙ ap (λ t. done ++ table_text t) next ∙ sym (append_assoc done (entry_line entry) (table_text new)))

-- a line was cut, and no more is put
pub lines_stop : {T E : Type 0} {r : Result T E} (a b c : Option (List ℕ)) (pending rest done all : List ℕ) (entry : Entry) (left new : Table) (after : List ℕ) → Passes a b pending done rest → all ≡ done ++ table_text left → left ≡ entry ∷ new → Cuts b c rest (entry_line entry) → IsErr r → Puts a c pending all after r
lines_stop {r = r} a b c pending rest done all entry left new after passed so_far next line err =
    subst (λ text. Puts a c pending text after r) (sym (so_far ∙ ap (λ t. done ++ table_text t) next)) (puts_then passed (puts_stop _ _ line err))
