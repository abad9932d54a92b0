-- The one row of the node itself.
use Rattle.fl_ops.specs.declared.format.Format.{Format}
use Rattle.fl_ops.specs.declared.format.Format.TheVariants.{One, Two}
use Rattle.fl_ops.specs.Format.{format_byte}
use Rattle.std.proofs.Common.{if◌then◌else◌, ◌==◌, ◌<◌, ◌≢◌, ◌≡◌, ℕ, pos, List, [], ◌∷◌, map, Bool, true, false, ◌+◌, ◌≤◌, length, Option, Some, None, refl, sym, ap, subst, ◌∙◌, arith}
use Rattle.std.specs.List.Sorted.{IsPermutation}
use Rattle.std.proofs.lemmas.List.Sorted.{length_permutation}
use Rattle.std.proofs.lemmas.Bool.{and_parts, eqb-true, eq-eqb, lt-ltb, ltb-true}
use Rattle.sqlite.specs.declared.types.Value.{Value}
use Rattle.sqlite.specs.declared.types.Value.TheVariants.{Null, Int, Real, Text, Blob}
use Rattle.sqlite.specs.Order.{Row, column}
use Rattle.sqlite.specs.Tree.{Trees}
use Rattle.sqlite.specs.Ops.{is_null}
use Rattle.sqlite.specs.Effect.{IsDatabase}
use Rattle.sqlite.specs.State.{State, Shown}
use Rattle.sqlite_schema.specs.Rules.{are_typed, passes, Keeps}
use Rattle.sqlite_schema.specs.declared.schema.Constraint.TheVariants.{Datatype}
use Rattle.sqlite_schema.specs.declared.schema.Column.{Column}
use Rattle.sqlite.proofs.Callers.{one_permutation}
use Rattle.std.specs.List.{AllByRecursion}
use Rattle.fl_sql_tables.specs.Tables.{keeper_schema, self_table, select_whole_text}
use Rattle.fl_sql_tables.specs.Stored.{self_row}
use Rattle.fl_sql_tables.specs.Founding.{shown_whole, itself_of, own_in, is_number, is_boot, IsOwn, IsOwnIn, IsOthers, IsItself}
use Rattle.fl_sql_tables.specs.declared.itself.Itself.{Itself}
use Rattle.fl_sql_tables.specs.declared.itself.Itself.TheVariants.{Bad, Other, Own}
use Rattle.fl_sql_tables.specs.Spelling.{whole_in}
use Rattle.fl_sql_tables.proofs.SpellingLemmas.{whole_is}
use Rattle.fl_sql_tables.proofs.Selects.{selects_whole}

null_is : (v : Value) → is_null v ≡ true → v ≡ Null
null_is Null h = refl
null_is (Int n) h = absurd cc
null_is (Real x) h = absurd cc
null_is (Text t) h = absurd cc
null_is (Blob b) h = absurd cc

no_longer : (key : Option ℕ) (at : ℕ) (cs : List Column) (vs : Row) → are_typed key at cs vs ≡ true → length vs ≤ length cs
no_longer key at [] [] h = omega arith
no_longer key at [] (v ∷ vs) h = absurd cc
no_longer key at (c ∷ cs) [] h = omega arith
no_longer key at (c ∷ cs) (v ∷ vs) h = let more = no_longer key (at + 1) cs vs (and_parts _ _ h).1 in omega arith

-- what is shown of the row of a format
abbrev shown_self : Format → ℕ → ℕ → Row
shown_self f node boot = Int (pos 1) ∷ Int (pos node) ∷ Int (pos boot) ∷ Int (pos (format_byte f)) ∷ []

row_is : (f : Format) (node boot : ℕ) (r : Row) → passes Datatype keeper_schema (λ _. []) self_table r ≡ true → shown_whole r ≡ shown_self f node boot → r ≡ self_row f node boot
row_is f node boot [] typed is = absurd cc
row_is f node boot (x ∷ []) typed is = absurd cc
row_is f node boot (x ∷ a ∷ []) typed is = absurd cc
row_is f node boot (x ∷ a ∷ b ∷ []) typed is = absurd cc
row_is f node boot (x ∷ a ∷ b ∷ c ∷ []) typed is = absurd cc
row_is f node boot (x ∷ a ∷ b ∷ c ∷ d ∷ []) typed is =
    let null : a ≡ Null = null_is a (and_parts _ _ (and_parts _ _ typed).0).0 in
    cc
row_is f node boot (x ∷ a ∷ b ∷ c ∷ d ∷ e ∷ more) typed is =
    let columns : are_typed (Some 0) 0 self_table.columns (a ∷ b ∷ c ∷ d ∷ e ∷ more) ≡ true =
    (and_parts (are_typed (Some 0) 0 self_table.columns (a ∷ b ∷ c ∷ d ∷ e ∷ more)) true typed).0 in
    let short : length (a ∷ b ∷ c ∷ d ∷ e ∷ more) ≤ 4 = no_longer (Some 0) 0 self_table.columns (a ∷ b ∷ c ∷ d ∷ e ∷ more) columns in
    absurd (omega arith)

if_own : (f : Format) (number : ℕ) (node : Value) (test : Bool) (it : Itself) → (if is_number number (whole_in node) then (if test then it else Bad) else Other) ≡ Own f
    → (is_number number (whole_in node) ≡ true) × (test ≡ true) × (it ≡ Own f)
if_own f number node test it h = by_cases _ _ h
  where
    by_cases : (a b : Bool) → (if a then (if b then it else Bad) else Other) ≡ Own f → (a ≡ true) × (b ≡ true) × (it ≡ Own f)
    by_cases true true h = (refl, refl, h)
    by_cases true false h = absurd (cc)
    by_cases false b h = absurd (cc)

-- no format is another node's
own_in_node : (x : Option ℕ) → own_in x ≢ Other
own_in_node None h = absurd (cc)
own_in_node (Some n) h = by_cases (n == 1) (n == 2) h
  where
    by_cases : (a b : Bool) → (if a then Own One else (if b then Own Two else Bad)) ≢ Other
    by_cases true b h = absurd (cc)
    by_cases false true h = absurd (cc)
    by_cases false false h = absurd (cc)

number_is : (number : ℕ) (v : Value) (x : Option ℕ) → whole_in v ≡ x → is_number number x ≡ true → v ≡ Int (pos number)
number_is number v None p h = absurd (cc)
number_is number v (Some n) p h = whole_is v n p ∙ ap (λ n. Int (pos n)) (eqb-true _ _ h)

boot_is : (v : Value) (x : Option ℕ) → whole_in v ≡ x → is_boot x ≡ true → (boot : ℕ) × (boot < 4294967296) × (v ≡ Int (pos boot))
boot_is v None p h = absurd (cc)
boot_is v (Some n) p h = (n, ltb-true n 4294967296 h, whole_is v n p)

format_in : (f : Format) (v : Value) (x : Option ℕ) → whole_in v ≡ x → own_in x ≡ Own f → v ≡ Int (pos (format_byte f))
format_in f v None p h = absurd (cc)
format_in f v (Some n) p h = by_cases (n == 1) (n == 2) refl refl h
  where
    by_cases : (a b : Bool) → (n == 1) ≡ a → (n == 2) ≡ b → (if a then Own One else (if b then Own Two else Bad)) ≡ Own f → v ≡ Int (pos (format_byte f))
    by_cases true b one two h = whole_is v n p ∙ ap (λ n. Int (pos n)) (eqb-true n 1 one) ∙ ap (λ g. Int (pos (format_byte g))) (let same : One ≡ f = cc in same)
    by_cases false true one two h = whole_is v n p ∙ ap (λ n. Int (pos n)) (eqb-true n 2 two) ∙ ap (λ g. Int (pos (format_byte g))) (let same : Two ≡ f = cc in same)
    by_cases false false one two h = absurd (cc)

shows_own : (f : Format) (number : ℕ) (r : Row) → itself_of number (shown_whole r ∷ []) ≡ Own f → (boot : ℕ) × (boot < 4294967296) × (shown_whole r ≡ shown_self f number boot)
shows_own f number r h =
    let tests = if_own f number (column r 2) _ (own_in (whole_in (column r 4))) h in
    let parts = and_parts _ _ tests.1 in
    let node = number_is number (column r 2) _ refl tests.0 in
    let boot = boot_is (column r 3) _ refl parts.0 in
    let id = number_is 1 (column r 0) _ refl parts.1 in
    let format = format_in f (column r 4) _ refl tests.2 in
    (boot.0, boot.1, λ i. id i ∷ node i ∷ boot.2 i ∷ format i ∷ [])

own_number : (number : ℕ) → (number == number) ≡ true
own_number number = eq-eqb number number refl

row_says : (f : Format) (number boot : ℕ) → boot < 4294967296 → itself_of number (shown_whole (self_row f number boot) ∷ []) ≡ Own f
row_says One number boot low = rw (own_number number, lt-ltb boot 4294967296 low) refl
row_says Two number boot low = rw (own_number number, lt-ltb boot 4294967296 low) refl

other_is : (number : ℕ) (rows : List Row) → itself_of number (map shown_whole rows) ≡ Other → (row : Row) × (rows ≡ row ∷ []) × (column row 2 ≢ Int (pos number))
other_is number [] h = absurd (cc)
other_is number (r ∷ []) h = (r, refl, λ is. absurd (by_cases _ (rw (is, own_number number) at h)))
  where
    by_cases : (b : Bool) → (if b then own_in (whole_in (column r 4)) else Bad) ≢ Other
    by_cases true h = own_in_node (whole_in (column r 4)) h
    by_cases false h = absurd (cc)
other_is number (r ∷ s ∷ more) h = absurd (cc)

own_is : (f : Format) (number : ℕ) (db : Trees) (rows : List Row) → AllByRecursion (λ row. passes Datatype keeper_schema db self_table row ≡ true) rows
    → itself_of number (map shown_whole rows) ≡ Own f → IsOwnIn f number rows
own_is f number db [] typed h = absurd (cc)
own_is f number db (r ∷ []) typed h =
    let shown = shows_own f number r h in
    (shown.0, shown.1, ap (λ r. r ∷ []) (row_is f number shown.0 r typed.0 shown.2))
own_is f number db (r ∷ s ∷ more) typed h = absurd (cc)

if_bad : (a : Bool) (it : Itself) → (if a then it else Other) ≡ Bad → a ≡ true
if_bad true it h = refl
if_bad false it h = absurd (cc)

not_own : (number : ℕ) (rows : List Row) → itself_of number (map shown_whole rows) ≡ Bad → ¬ IsOwn number rows
not_own number rows bad (f, (boot, low, is)) =
    absurd (let wrong : Bad ≡ Own f = sym bad ∙ ap (λ l. itself_of number (map shown_whole l)) is ∙ row_says f number boot low in cc)

not_others : (number : ℕ) (rows : List Row) → itself_of number (map shown_whole rows) ≡ Bad → ¬ IsOthers number rows
not_others number rows bad other =
    let one : itself_of number (shown_whole other.0 ∷ []) ≡ Bad = sym (ap (λ l. itself_of number (map shown_whole l)) other.1) ∙ bad in
    other.2 (number_is number (column other.0 2) _ refl (if_bad _ _ one))

-- one row in some order is that row, and more or less than one are so in any order
itself_permuted : (number : ℕ) (xs ys : List Row) → IsPermutation xs ys → itself_of number xs ≡ itself_of number ys
itself_permuted number [] ys h = ap (itself_of number) (sym (no_row ys (length_permutation [] ys h)))
  where
    no_row : (ys : List Row) → length ys ≡ 0 → ys ≡ []
    no_row [] none = refl
    no_row (y ∷ ys) none = absurd (omega arith)
itself_permuted number (x ∷ []) ys h = ap (itself_of number) (sym (one_permutation x ys h))
itself_permuted number (x ∷ x' ∷ xs) ys h = two_bad number (x ∷ x' ∷ xs) (omega arith) ∙ sym (two_bad number ys (let same = length_permutation (x ∷ x' ∷ xs) ys h in omega arith))
  where
    two_bad : (number : ℕ) (rows : List Row) → 2 ≤ length rows → itself_of number rows ≡ Bad
    two_bad number [] h = absurd (omega arith)
    two_bad number (x ∷ []) h = absurd (omega arith)
    two_bad number (x ∷ y ∷ more) h = refl

pub itself_is : (number : ℕ) (old new : State) (rows : List Row) (it : Itself) → old.now.schema ≡ keeper_schema → IsDatabase old.now → Shown select_whole_text [] old new rows
    → it ≡ itself_of number rows → IsItself number old it
itself_is number old new rows it has sound h is =
    let told : it ≡ itself_of number (map shown_whole (old.now.trees 0)) = is ∙ sym (itself_permuted number _ _ (selects_whole old new rows has h)) in
    let typed = subst (λ s. Keeps Datatype s old.now.trees) has (sound.obeys.rules Datatype) in
    let first : AllByRecursion (λ row. passes Datatype keeper_schema old.now.trees self_table row ≡ true) (old.now.trees 0) = typed.0 in
    by_cases it told first
  where
    by_cases : (it : Itself) → it ≡ itself_of number (map shown_whole (old.now.trees 0)) → AllByRecursion (λ row. passes Datatype keeper_schema old.now.trees self_table row ≡ true) (old.now.trees 0) → IsItself number old it
    by_cases Bad told typed = (not_own number (old.now.trees 0) (sym told), not_others number (old.now.trees 0) (sym told))
    by_cases Other told typed = other_is number (old.now.trees 0) (sym told)
    by_cases (Own f) told typed = own_is f number old.now.trees (old.now.trees 0) typed (sym told)
