-- States of a connection, one after another.
use Rattle.std.proofs.Common.{◌≡◌, ◌⊎◌, inl, inr, ℕ, zero, suc, ◌+◌, ◌<◌, take, length, get_or, List, [], ◌∷◌, ◌++◌, IsTrue, refl, sym, ap, subst, ◌∙◌, arith, map, append_assoc}
use Rattle.sqlite.specs.Tree.{Trees}
use Rattle.sqlite.specs.State.{State, HasCleanDisk, Survives, KeepsCommit}
use Rattle.sqlite.proofs.StateLemmas.{survives_then}
use Rattle.fl_ops.specs.declared.op.Op.{Op}
use Rattle.fl_store.specs.Kept.{with_ops}
use Rattle.fl_sql_tables.proofs.SetLemmas.{with_ops_on}
use Rattle.fl_sql_tables.specs.Spelling.{row_of}
use Rattle.fl_sql_tables.specs.Stored.{PutsIn, shown_op, IsOurs}
use Rattle.std.proofs.lemmas.List.{take_more, map-append}
use Rattle.std.specs.List.Sorted.{IsPermutation}
use Rattle.std.proofs.lemmas.List.Sorted.{IsPermutation-trans, IsPermutation-append_left}
use Rattle.sqlite.specs.Order.{Row}

pub survives_still : (s : State) → Survives s s (λ _. ⊥)
survives_still s = record { clean = omega arith; shield = λ h. h; counts = omega arith; limit = refl; closes = λ _ h. inl h; crash = λ _ db h. inl h }

pub survives_on : (a b c : State) → Survives a b (λ _. ⊥) → Survives b c (λ _. ⊥) → Survives a c (λ _. ⊥)
survives_on a b c = survives_then a b c _ _ (λ _. ⊥) (λ _ db none. none) (λ _ db none. none)

pub clean_before : (a b : State) (P : Trees → Type 0) → Survives a b P → HasCleanDisk b → HasCleanDisk a
clean_before a b P s clean = omega (arith, s.clean)

pub keeps_still : (s : State) → KeepsCommit s s
keeps_still s = record { was_open = λ h. h; committed = λ _. refl }

pub keeps_on : (a b c : State) → KeepsCommit a b → KeepsCommit b c → KeepsCommit a c
keeps_on a b c p q = record { was_open = λ h. p.was_open (q.was_open h); committed = λ h. q.committed h ∙ p.committed (q.was_open h) }

pub zero_or : (n : ℕ) → (n ≡ 0) ⊎ (0 < n)
zero_or zero = inl refl
zero_or (suc n) = inr (omega arith)

-- rows for one list after another
rows_on : (a b c : List Row) (xs ys : List Op) → IsPermutation b (a ++ map row_of xs) → IsPermutation c (b ++ map row_of ys) → IsPermutation c (a ++ map row_of (xs ++ ys))
rows_on a b c xs ys p q =
    let both = IsPermutation-trans _ _ _ q (IsPermutation-append_left (map row_of ys) b (a ++ map row_of xs) p) in
    subst (IsPermutation c) (append_assoc a (map row_of xs) (map row_of ys) ∙ ap (λ l. a ++ l) (sym (map-append row_of xs ys))) both

pub puts_on : (a b c : State) (xs ys : List Op) → PutsIn xs a b → PutsIn ys b c → PutsIn (xs ++ ys) a c
puts_on a b c xs ys p q = record {
  added = record {
    schema = q.added.schema;
    itself = q.added.itself ∙ p.added.itself;
    catalog = q.added.catalog ∙ p.added.catalog;
    rows = rows_on (map shown_op (a.now.trees 1)) (map shown_op (b.now.trees 1)) _ xs ys p.added.rows q.added.rows;
    added = q.added.added ∙ ap (λ s. with_ops s ys) p.added.added ∙ sym (with_ops_on _ xs ys);
  };
  shown = record {
    was_open = p.shown.was_open;
    is_open = q.shown.is_open;
    now_is = refl;
    committed_is = q.shown.committed_is ∙ p.shown.committed_is;
    mode = q.shown.mode;
  };
}

-- the step of a loop
pub puts_next : (old mid new : State) (ops : List Op) (i : ℕ) (d : Op) → i < length ops → (i ≡ 0 → mid ≡ old) → (0 < i → PutsIn (take i ops) old mid)
    → IsTrue old.in_transaction → IsOurs old → (IsTrue mid.in_transaction → IsOurs mid → PutsIn (get_or ops i d ∷ []) mid new) → PutsIn (take (i + 1) ops) old new
puts_next old mid new ops i d within first so_far inside ours one = rw (take_more ops i d within) (elim (zero_or i) [
  | inl start ↦
      let same = first start in
      let it : PutsIn (get_or ops i d ∷ []) old new = subst (λ m. PutsIn (get_or ops i d ∷ []) m new) same (one (subst (λ (m : State). IsTrue m.in_transaction) (sym same) inside) (subst IsOurs (sym same) ours)) in
      subst (λ xs. PutsIn (xs ++ get_or ops i d ∷ []) old new) (sym (ap (λ n. take n ops) start)) it
  | inr more ↦ let before = so_far more in puts_on old mid new _ _ before (one before.shown.mode (λ _. before.added.schema))
])
