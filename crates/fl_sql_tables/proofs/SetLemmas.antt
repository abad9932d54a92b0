-- Sets of the operations of lists.
use Rattle.std.proofs.Common.{◌≡◌, ◌∙◌, refl, sym, ap, Bool, true, false, List, [], ◌∷◌, ◌++◌}
use Rattle.std.specs.Prelude.{◌||◌}
use Rattle.std.specs.Ordering.{eq_by_cmp}
use Rattle.std.specs.List.{list_any}
use Rattle.std.proofs.lemmas.List.Folds.{list_any-append}
use Rattle.fl_labels.specs.SetBy.{SetBy, empty, contains, insert, of_list, same_set, contains-empty, contains-insert, contains-of_list, contains-union}
use Rattle.fl_ops.specs.declared.op.Op.{Op}
use Rattle.fl_ops.specs.OpOrder.{op_cmp}
use Rattle.fl_ops.specs.OpLaws.{op_total, op_exact}
use Rattle.std.proofs.lemmas.Bool.{false≢true}
use Rattle.fl_store.specs.Kept.{with_ops, HasNamesOnce}

or_assoc : (a b c : Bool) → ((a || b) || c) ≡ (a || (b || c))
or_assoc true b c = refl
or_assoc false b c = refl

or_none : (a : Bool) → (a || false) ≡ a
or_none true = refl
or_none false = refl

or_swap : (a b : Bool) → (a || b) ≡ (b || a)
or_swap true true = refl
or_swap true false = refl
or_swap false true = refl
or_swap false false = refl

-- whether a list has the operation
abbrev pub has : Op → List Op → Bool
has q ops = list_any (eq_by_cmp op_cmp q) ops

pub contains-with_ops : (saved : SetBy op_cmp) (ops : List Op) (q : Op) → contains (with_ops saved ops) q ≡ (contains saved q || has q ops)
contains-with_ops saved ops q = contains-union op_total saved (of_list ops) q ∙ ap (λ b. contains saved q || b) (contains-of_list op_total ops q)

-- with one list after another
pub with_ops_on : (saved : SetBy op_cmp) (xs ys : List Op) → with_ops saved (xs ++ ys) ≡ with_ops (with_ops saved xs) ys
with_ops_on saved xs ys = same_set op_total op_exact _ _ (λ q.
    contains-with_ops saved (xs ++ ys) q
    ∙ ap (λ b. contains saved q || b) (list_any-append (eq_by_cmp op_cmp q) xs ys)
    ∙ sym (or_assoc (contains saved q) (has q xs) (has q ys))
    ∙ ap (λ b. b || has q ys) (sym (contains-with_ops saved xs q))
    ∙ sym (contains-with_ops (with_ops saved xs) ys q))

-- one more
pub with_one : (saved : SetBy op_cmp) (op : Op) → with_ops saved (op ∷ []) ≡ insert saved op
with_one saved op = same_set op_total op_exact _ _ (λ q.
    contains-with_ops saved (op ∷ []) q
    ∙ ap (λ b. contains saved q || b) (or_none (eq_by_cmp op_cmp q op))
    ∙ or_swap (contains saved q) (eq_by_cmp op_cmp q op)
    ∙ sym (contains-insert op_total saved op q))

-- none more
pub with_none : (saved : SetBy op_cmp) → with_ops saved [] ≡ saved
with_none saved = same_set op_total op_exact _ _ (λ q. contains-with_ops saved [] q ∙ or_none (contains saved q))

-- a list with one more at its end
pub of_list_push : (xs : List Op) (x : Op) → of_list {R = op_cmp} (xs ++ x ∷ []) ≡ insert (of_list xs) x
of_list_push xs x = same_set op_total op_exact _ _ (λ q.
    contains-of_list op_total (xs ++ x ∷ []) q
    ∙ list_any-append (eq_by_cmp op_cmp q) xs (x ∷ [])
    ∙ ap (λ b. has q xs || b) (or_none (eq_by_cmp op_cmp q x))
    ∙ or_swap (has q xs) (eq_by_cmp op_cmp q x)
    ∙ ap (λ b. eq_by_cmp op_cmp q x || b) (sym (contains-of_list op_total xs q))
    ∙ sym (contains-insert op_total (of_list xs) x q))

-- nothing has no two names
pub once-empty : HasNamesOnce empty
once-empty a b has_a has_b e = absurd (false≢true (sym (contains-empty op_cmp a) ∙ has_a))
