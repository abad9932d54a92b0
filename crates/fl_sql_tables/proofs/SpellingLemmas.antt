-- The row of an operation spells it, and what another row says is decided by the bytes of an operation that begins them.
use Rattle.std.proofs.Common.{◌≡◌, ◌≢◌, ℕ, zero, pos, negsuc, Bool, true, false, ◌&&◌, ◌==◌, List, [], ◌∷◌, ◌++◌, length, take, drop, append-nil, length-append, Option, Some, None, refl, sym, ap, subst, ◌∙◌, arith, cond}
use Rattle.std.specs.Option.{option_and_then}
use Rattle.std.proofs.lemmas.List.{take-append-drop}
use Rattle.std.proofs.lemmas.Bool.{and_parts, eq-eqb, eqb-true}
use Rattle.sqlite.specs.declared.types.Value.{Value}
use Rattle.sqlite.specs.declared.types.Value.TheVariants.{Null, Int, Real, Text, Blob}
use Rattle.sqlite.specs.Order.{Row, column}
use Rattle.fl_ops.specs.declared.format.Format.{Format}
use Rattle.fl_ops.specs.declared.format.Format.TheVariants.{Two}
use Rattle.fl_ops.specs.declared.op.Op.{Op}
use Rattle.fl_ops.specs.Bytes.{op_bytes}
use Rattle.fl_ops.specs.Fits.{HasOp}
use Rattle.fl_ops.specs.Grammar.{op_fault}
use Rattle.fl_ops.specs.laws.OneSpelling.{no_fault, op_front, second_has}
use Rattle.fl_sql_tables.specs.Spells.{Spells, Reads}
use Rattle.fl_sql_tables.specs.laws.Deciding.{reads}
use Rattle.fl_sql_tables.specs.Spelling.{op_at, op_if, whole_in, blob_in, spelled_by, op_of, row_of}

-- ---- what bytes spell

-- bytes spell one operation
one_op : (bytes : List ℕ) (a b : Op) → Spells bytes a → Spells bytes b → a ≡ b
one_op bytes a b (f, has, e) (g, other, e') = (op_front f g a b [] [] has other (ap (λ l. l ++ []) (e ∙ sym e'))).1

reads_one : (bytes : List ℕ) (o : Option Op) → Reads bytes o → (op : Op) → Spells bytes op → o ≡ Some op
reads_one bytes None none op spells = absurd (none op spells)
reads_one bytes (Some a) here op spells = ap Some (one_op bytes a op here spells)

reads_none : (bytes : List ℕ) (o : Option Op) → Reads bytes o → Reads bytes None → o ≡ None
reads_none bytes None here none = refl
reads_none bytes (Some a) here none = absurd (none a here)

if_named : (node seq : ℕ) (op : Op) → op.name.node ≡ node → op.name.seq ≡ seq → op_if node seq op ≡ Some op
if_named node seq op p q = rw (eq-eqb _ _ p, eq-eqb _ _ q) refl

-- bytes that are an operation's spell it under its name
pub spelled_by_op : (node seq : ℕ) (bytes : List ℕ) (op : Op) → op.name.node ≡ node → op.name.seq ≡ seq → Spells bytes op
    → spelled_by (Some node) (Some seq) (Some bytes) ≡ Some op
spelled_by_op node seq bytes op p q spells =
    let it = reads bytes in
    ap (option_and_then (op_if node seq)) (reads_one bytes it.0 it.1 op spells) ∙ if_named node seq op p q

-- the row of an operation spells it
pub op_of-row_of : (op : Op) → op_of (row_of op) ≡ Some op
op_of-row_of op = spelled_by_op op.name.node op.name.seq (op_bytes Two op) op refl refl (Two, second_has op, refl)

-- ---- what is no spelling

pub spelled_none : (node seq : ℕ) (bytes : List ℕ) → Reads bytes None → spelled_by (Some node) (Some seq) (Some bytes) ≡ None
spelled_none node seq bytes none =
    let it = reads bytes in
    ap (option_and_then (op_if node seq)) (reads_none bytes it.0 it.1 none)

-- bytes with a fault
pub faulty_none : (node seq place : ℕ) (bytes : List ℕ) → op_fault bytes ≡ Some place → spelled_by (Some node) (Some seq) (Some bytes) ≡ None
faulty_none node seq place bytes fault = spelled_none node seq bytes (λ op it.
    let none : op_fault bytes ≡ None = subst (λ l. op_fault l ≡ None) (append-nil (op_bytes it.0 op) ∙ it.2) (no_fault it.0 op [] it.1) in
    absurd (let wrong : Some place ≡ None = sym fault ∙ none in cc))

take_whole : (xs : List ℕ) → take (length xs) xs ≡ xs
take_whole [] = refl
take_whole (x ∷ xs) = ap (λ l. x ∷ l) (take_whole xs)

not_same : (a b : ℕ) → a ≢ b → (a == b) ≡ false
not_same a b differs = by_case (a == b) refl
  where
    by_case : (t : Bool) → (a == b) ≡ t → (a == b) ≡ false
    by_case true h = absurd (differs (eqb-true a b h))
    by_case false h = h

module _ (f : Format) (node seq size : ℕ) (bytes : List ℕ) (op : Op) (has : HasOp f op) (sized : size ≡ length (op_bytes f op)) (front : take size bytes ≡ op_bytes f op) where
  -- bytes after an operation's
  pub longer_none : size ≢ length bytes → spelled_by (Some node) (Some seq) (Some bytes) ≡ None
  longer_none longer = spelled_none node seq bytes (λ other it.
      let whole : op_bytes f op ++ drop size bytes ≡ bytes = ap (λ l. l ++ drop size bytes) (sym front) ∙ take-append-drop size bytes in
      let rest : drop size bytes ≡ [] =
      (op_front f it.0 op other (drop size bytes) [] has it.1 (whole ∙ sym it.2 ∙ sym (append-nil (op_bytes it.0 other)))).2 in
      longer (sized ∙ ap length (sym (append-nil (op_bytes f op)) ∙ ap (λ l. op_bytes f op ++ l) (sym rest) ∙ whole)))

  -- those of an operation alone
  whole_spells : size ≡ length bytes → Spells bytes op
  whole_spells whole = (f, has, sym front ∙ ap (λ n. take n bytes) whole ∙ take_whole bytes)

  read_so : size ≡ length bytes → spelled_by (Some node) (Some seq) (Some bytes) ≡ op_if node seq op
  read_so whole = let it = reads bytes in ap (option_and_then (op_if node seq)) (reads_one bytes it.0 it.1 op (whole_spells whole))

  -- an operation of another name
  pub other_node_none : size ≡ length bytes → op.name.node ≢ node → spelled_by (Some node) (Some seq) (Some bytes) ≡ None
  other_node_none whole differs = read_so whole ∙ ap (λ b. cond (b && (op.name.seq == seq)) (Some op) None) (not_same _ _ differs)

  pub other_seq_none : size ≡ length bytes → op.name.node ≡ node → op.name.seq ≢ seq → spelled_by (Some node) (Some seq) (Some bytes) ≡ None
  other_seq_none whole p differs = read_so whole ∙ rw (eq-eqb _ _ p, not_same _ _ differs) refl

  -- and that operation
  pub whole_some : size ≡ length bytes → op.name.node ≡ node → op.name.seq ≡ seq → spelled_by (Some node) (Some seq) (Some bytes) ≡ Some op
  whole_some whole p q = spelled_by_op node seq bytes op p q (whole_spells whole)

-- ---- the columns of a row

pub whole_is : (v : Value) (n : ℕ) → whole_in v ≡ Some n → v ≡ Int (pos n)
whole_is Null n h = absurd (cc)
whole_is (Int (pos m)) n h = ap (λ k. Int (pos k)) (let same : m ≡ n = cc in same)
whole_is (Int (negsuc m)) n h = absurd (cc)
whole_is (Real x) n h = absurd (cc)
whole_is (Text x) n h = absurd (cc)
whole_is (Blob x) n h = absurd (cc)

-- a row of three columns spells what they say
pub op_of_three : (row : Row) → length row ≡ 3 → op_of row ≡ spelled_by (whole_in (column row 0)) (whole_in (column row 1)) (blob_in (column row 2))
op_of_three [] h = absurd (omega arith)
op_of_three (a ∷ []) h = absurd (omega arith)
op_of_three (a ∷ b ∷ []) h = absurd (omega arith)
op_of_three (a ∷ b ∷ c ∷ []) h = refl
op_of_three (a ∷ b ∷ c ∷ d ∷ more) h = absurd (omega arith)

-- and one of another length spells nothing
pub op_of_other : (row : Row) → length row ≢ 3 → op_of row ≡ None
op_of_other [] h = refl
op_of_other (a ∷ []) h = refl
op_of_other (a ∷ b ∷ []) h = refl
op_of_other (a ∷ b ∷ c ∷ []) h = absurd (h refl)
op_of_other (a ∷ b ∷ c ∷ d ∷ more) h = refl
