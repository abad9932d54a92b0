-- Sets of operations, and rows that spell them.
use Rattle.std.proofs.Common.{◌≡◌, ℕ, List, [], ◌∷◌, ◌++◌, map, Bool, true, false, ◌||◌, Option, Some, None, refl, sym, ap, subst, ◌∙◌}
use Rattle.std.specs.declared.cmp.Ordering.{Ordering}
use Rattle.std.specs.declared.cmp.Ordering.TheVariants.{Less, Equal, Greater}
use Rattle.std.specs.Ordering.{eq_by_cmp, is_eq, match_ordering}
use Rattle.std.specs.List.{list_any, filter_map, cons_option}
use Rattle.sqlite.specs.Order.{Row}
use Rattle.sqlite_value.specs.Order.{value_cmp}
use Rattle.sqlite.specs.Tree.{put_row, rowid}
use Rattle.sqlite.specs.Edit.{is_taken}
use Rattle.fl_ops.specs.declared.format.Format.TheVariants.{Two}
use Rattle.fl_ops.specs.declared.op.Op.{Op}
use Rattle.fl_labels.specs.SetBy.{insert, of_list, contains, contains-of_list, contains-insert, same_set}
use Rattle.fl_ops.specs.OpOrder.{op_cmp}
use Rattle.fl_ops.specs.OpLaws.{op_total, op_exact}
use Rattle.fl_ops.specs.Bytes.{op_bytes}
use Rattle.fl_sql_tables.specs.Spelling.{op_of, row_of}
use Rattle.fl_sql_tables.proofs.SpellingLemmas.{op_of-row_of}
use Rattle.fl_sql_tables.proofs.SetLemmas.{with_one}
use Rattle.std.proofs.Common.{Ok}
use Rattle.sqlite.specs.Effect.{Database}
use Rattle.sqlite.specs.State.{State, ExecutesInside}
use Rattle.fl_sql_tables.specs.Tables.{insert_op_text}
use Rattle.fl_sql_tables.specs.Stored.{op_in, ops_in, shown_op, InsertsOp, AddsOps, PutsIn, IsOurs}
use Rattle.fl_sql_tables.proofs.Inserts.{inserts_op}
use Rattle.std.specs.List.Sorted.{IsPermutation}
use Rattle.std.proofs.lemmas.List.Sorted.{list_any-IsPermutation, IsPermutation-refl, IsPermutation-sym, IsPermutation-trans, IsPermutation-cons, IsPermutation-middle, IsPermutation-to_front, IsPermutation-map}

-- whether the row spells the operation
abbrev pub spells : Op → Option Op → Bool
spells q None = false
spells q (Some op) = eq_by_cmp op_cmp q op

any_cons : (q : Op) (o : Option Op) (ops : List Op) → list_any (eq_by_cmp op_cmp q) (cons_option o ops) ≡ (spells q o || list_any (eq_by_cmp op_cmp q) ops)
any_cons q None ops = refl
any_cons q (Some op) ops = refl

any_spelled : (f : Row → Option Op) (q : Op) (rows : List Row) → list_any (eq_by_cmp op_cmp q) (filter_map f rows) ≡ list_any (λ r. spells q (f r)) rows
any_spelled f q [] = refl
any_spelled f q (r ∷ rows) = any_cons q (f r) (filter_map f rows) ∙ ap (λ b. spells q (f r) || b) (any_spelled f q rows)

swap_or : (a b c : Bool) → (a || (b || c)) ≡ (b || (a || c))
swap_or true true c = refl
swap_or true false c = refl
swap_or false b c = refl

any_by : (p : Row → Bool) (new r : Row) (rows put : List Row) (taken : Bool) → (taken ≡ false → list_any p put ≡ (p new || list_any p rows))
    → (c : Ordering) → (is_eq c || taken) ≡ false → list_any p (match_ordering c (r ∷ put) (new ∷ rows) (new ∷ r ∷ rows)) ≡ (p new || (p r || list_any p rows))
any_by p new r rows put taken more Less fresh = ap (λ b. p r || b) (more fresh) ∙ swap_or (p r) (p new) (list_any p rows)
any_by p new r rows put taken more Equal fresh = absurd cc
any_by p new r rows put taken more Greater fresh = refl

any_put : (p : Row → Bool) (new : Row) (rows : List Row) → is_taken rows new ≡ false → list_any p (put_row new rows) ≡ (p new || list_any p rows)
any_put p new [] fresh = refl
any_put p new (r ∷ rows) fresh = any_by p new r rows (put_row new rows) (is_taken rows new) (any_put p new rows) (value_cmp (rowid r) (rowid new)) fresh

pub contains_op : (rows : List Row) (q : Op) → contains (ops_in rows) q ≡ list_any (λ r. spells q (op_in r)) rows
contains_op rows q = contains-of_list op_total (filter_map op_in rows) q ∙ any_spelled op_in q rows

-- one row more, under a rowid that no row has, is one operation more
pub one_more_op : (rows : List Row) (new : Row) (op : Op) → is_taken rows new ≡ false → op_in new ≡ Some op → ops_in (put_row new rows) ≡ insert (ops_in rows) op
one_more_op rows new op fresh is = same_set op_total op_exact _ _ (λ q.
    contains_op (put_row new rows) q ∙ any_put (λ r. spells q (op_in r)) new rows fresh ∙ ap (λ o. spells q o || list_any (λ r. spells q (op_in r)) rows) is
    ∙ sym (contains-insert op_total (ops_in rows) op q ∙ ap (λ b. eq_by_cmp op_cmp q op || b) (contains_op rows q)))

put_by : (new r : Row) (rows put : List Row) (taken : Bool) → (taken ≡ false → IsPermutation put (new ∷ rows))
    → (c : Ordering) → (is_eq c || taken) ≡ false → IsPermutation (match_ordering c (r ∷ put) (new ∷ rows) (new ∷ r ∷ rows)) (new ∷ r ∷ rows)
put_by new r rows put taken more Less fresh = IsPermutation-trans _ _ _ (IsPermutation-cons r put (new ∷ rows) (more fresh)) (IsPermutation-middle (r ∷ []) new rows)
put_by new r rows put taken more Equal fresh = absurd cc
put_by new r rows put taken more Greater fresh = IsPermutation-refl (new ∷ r ∷ rows)

-- a row that is put under a rowid that no row has is the only new one
put_permutes : (new : Row) (rows : List Row) → is_taken rows new ≡ false → IsPermutation (put_row new rows) (new ∷ rows)
put_permutes new [] fresh = IsPermutation-refl (new ∷ [])
put_permutes new (r ∷ rows) fresh = put_by new r rows (put_row new rows) (is_taken rows new) (put_permutes new rows) (value_cmp (rowid r) (rowid new)) fresh

shown_more : (rows : List Row) (new : Row) (op : Op) → is_taken rows new ≡ false → shown_op new ≡ row_of op → IsPermutation (map shown_op (put_row new rows)) (map shown_op rows ++ row_of op ∷ [])
shown_more rows new op fresh is =
    let put : IsPermutation (map shown_op (put_row new rows)) (shown_op new ∷ map shown_op rows) = IsPermutation-map shown_op _ _ (put_permutes new rows fresh) in
    let last : IsPermutation (shown_op new ∷ map shown_op rows) (map shown_op rows ++ shown_op new ∷ []) = IsPermutation-sym _ _ (IsPermutation-to_front (map shown_op rows) (shown_op new)) in
    subst (λ r. IsPermutation (map shown_op (put_row new rows)) (map shown_op rows ++ r ∷ [])) is (IsPermutation-trans _ _ _ put last)

adds_one : (op : Op) (old new : Database) → InsertsOp (row_of op) old new → AddsOps (op ∷ []) old new
adds_one op old new it = record {
  schema = it.schema;
  itself = it.itself;
  catalog = it.catalog;
  rows = subst (λ t. IsPermutation (map shown_op t) (map shown_op (old.trees 1) ++ row_of op ∷ [])) (sym it.rows) (shown_more (old.trees 1) (it.id ∷ row_of op) op it.fresh refl);
  added = ap ops_in it.rows ∙ one_more_op (old.trees 1) (it.id ∷ row_of op) op it.fresh (op_of-row_of op) ∙ sym (with_one (ops_in (old.trees 1)) op);
}

pub puts_one : (old new : State) (op : Op) (count : ℕ) → IsOurs old → ExecutesInside 0 insert_op_text (row_of op) old new (Ok count) → PutsIn (op ∷ []) old new
puts_one old new op count ours h =
    record { added = adds_one op old.now new.now (inserts_op old new op.name.node op.name.seq (op_bytes Two op) count (ours h.1.was_open) h.0); shown = h.1 }

pub any_mapped : {X Y : Type 0} (p : Y → Bool) (f : X → Y) (xs : List X) → list_any p (map f xs) ≡ list_any (λ x. p (f x)) xs
any_mapped p f [] = refl
any_mapped p f (x ∷ xs) = ap (λ b. p (f x) || b) (any_mapped p f xs)

-- the rows spell these operations, each its own
abbrev pub AreRows : List Row → List Op → Type 0
AreRows rows ops = map op_of rows ≡ map Some ops

-- so what is told of the operations is told of the rows
pub any_read : (p : Option Op → Bool) (rows : List Row) (ops : List Op) → AreRows rows ops → list_any (λ r. p (op_of r)) rows ≡ list_any (λ op. p (Some op)) ops
any_read p rows ops h = sym (any_mapped p op_of rows) ∙ ap (list_any p) h ∙ any_mapped p Some ops

-- the rows that are shown for operations are those of the table, in some order
pub loaded : (table rows : List Row) (ops : List Op) → AreRows rows ops → IsPermutation (map shown_op table) rows → of_list {R = op_cmp} ops ≡ ops_in table
loaded table rows ops are h = same_set op_total op_exact _ _ (λ q.
    contains-of_list op_total ops q
    ∙ sym (any_read (spells q) rows ops are)
    ∙ sym (list_any-IsPermutation (λ r. spells q (op_of r)) _ _ h)
    ∙ any_mapped (λ r. spells q (op_of r)) shown_op table
    ∙ sym (contains_op table q))
