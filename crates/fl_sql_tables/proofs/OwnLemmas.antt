-- What the nodes of a term say of `id = 1`.
use Rattle.std.proofs.Common.{◌≡◌, ◌≢◌, refl, ℕ, zero, suc, ◌<◌, ◌≤◌, List, [], ◌∷◌, length, pos, sym, ap, subst, ◌∙◌, arith, get_or}
use Rattle.std.specs.Prelude.{slice_index_or}
use Rattle.sqlite.specs.declared.types.Value.TheVariants.{Null, Int}
use Rattle.sqlite_schema.specs.declared.code.Op.{Op}
use Rattle.sqlite_schema.specs.declared.code.Op.TheVariants.{Literal, Column, Unary, Binary, Case}
use Rattle.sqlite_sql.specs.Term.{Term, lit, col, op2}
use Rattle.sqlite_schema.specs.Code.{op_term, term_to, term_in}
use Rattle.sqlite.specs.Collation.TheVariants.{Binary as Bytewise}
use Rattle.sqlite_sql.specs.declared.ops.BinaryOp.TheVariants.{Compare}
use Rattle.sqlite_sql.specs.declared.ops.CompareOp.TheVariants.{Eq}
use Rattle.fl_sql_tables.specs.OwnCheck.{own_check, equals, id_read, one_told}

abbrev pub at : List Op → ℕ → Op
at ops place = slice_index_or ops place (Literal Null)

-- two levels are enough
pub own_term : (ops : List Op) (root left right : ℕ) → 2 ≤ length ops → at ops root ≡ equals left right → at ops left ≡ id_read → at ops right ≡ one_told → term_in ops root ≡ own_check
own_term ops root left right deep is first second = by_depth (length ops) deep
  where
    by_depth : (depth : ℕ) → 2 ≤ depth → term_to ops depth root ≡ own_check
    by_depth zero h = absurd (omega arith)
    by_depth (suc zero) h = absurd (omega arith)
    by_depth (suc (suc depth)) h =
        ap (op_term (term_to ops (suc depth))) is
        ∙ (λ i. op2 (Compare Eq Bytewise) (op_term (term_to ops depth) (first i)) (op_term (term_to ops depth) (second i)))

pub compares : (ops : List Op) (root : ℕ) → term_in ops root ≡ own_check → (left right : ℕ) × (at ops root ≡ equals left right) × (at ops left ≡ id_read) × (at ops right ≡ one_told) × (2 ≤ length ops)
compares ops root h = by_depth (length ops) h
  where
    reads : (below : ℕ → Term) (op : Op) → op_term below op ≡ col 1 0 → op ≡ id_read
    reads below (Literal v) h = absurd (cc)
    reads below (Column s c) h = cc
    reads below (Unary o a) h = absurd (cc)
    reads below (Binary o a b) h = absurd (cc)
    reads below (Case t a b) h = absurd (cc)

    tells : (below : ℕ → Term) (op : Op) → op_term below op ≡ lit (Int (pos 1)) → op ≡ one_told
    tells below (Literal v) h = cc
    tells below (Column s c) h = absurd (cc)
    tells below (Unary o a) h = absurd (cc)
    tells below (Binary o a b) h = absurd (cc)
    tells below (Case t a b) h = absurd (cc)

    by_op : (depth : ℕ) (op : Op) → at ops root ≡ op → op_term (term_to ops depth) op ≡ own_check
        → (left right : ℕ) × (at ops root ≡ equals left right) × (at ops left ≡ id_read) × (at ops right ≡ one_told) × (1 ≤ depth)
    by_op depth (Literal v) is h = absurd (cc)
    by_op depth (Column s c) is h = absurd (cc)
    by_op depth (Unary o a) is h = absurd (cc)
    by_op depth (Case t a b) is h = absurd (cc)
    by_op zero (Binary o a b) is h = absurd (cc)
    by_op (suc depth) (Binary o a b) is h =
        let first : op_term (term_to ops depth) (at ops a) ≡ col 1 0 = cc in
        let second : op_term (term_to ops depth) (at ops b) ≡ lit (Int (pos 1)) = cc in
        let same : Binary o a b ≡ equals a b = cc in
        (a, b, is ∙ same, reads (term_to ops depth) (at ops a) first, tells (term_to ops depth) (at ops b) second, omega arith)

    by_depth : (depth : ℕ) → term_to ops depth root ≡ own_check → (left right : ℕ) × (at ops root ≡ equals left right) × (at ops left ≡ id_read) × (at ops right ≡ one_told) × (2 ≤ depth)
    by_depth zero h = absurd (cc)
    by_depth (suc depth) h = let it = by_op depth (at ops root) refl h in (it.0, it.1, it.2, it.3, it.4, omega (arith, it.5))

-- a place that is not within has no node
within : (ops : List Op) (place : ℕ) (op : Op) → at ops place ≡ op → op ≢ Literal Null → place < length ops
within [] place op is some = absurd (some (sym is))
within (x ∷ ops) zero op is some = omega arith
within (x ∷ ops) (suc place) op is some = let h = within ops place op is some in omega arith

-- the two that a node compares are those of `id = 1`
pub both : (ops : List Op) (root left right : ℕ) → at ops root ≡ equals left right → term_in ops root ≡ own_check → (at ops left ≡ id_read) × (at ops right ≡ one_told) × (left < length ops) × (right < length ops)
both ops root left right is h =
    let it = compares ops root h in
    let same : equals it.0 it.1 ≡ equals left right = sym it.2 ∙ is in
    let first : at ops left ≡ id_read = subst (λ n. at ops n ≡ id_read) (let e : it.0 ≡ left = cc in e) it.3 in
    let second : at ops right ≡ one_told = subst (λ n. at ops n ≡ one_told) (let e : it.1 ≡ right = cc in e) it.4 in
    (first, second, within ops left id_read first (λ e. absurd (cc)), within ops right one_told second (λ e. absurd (cc)))

-- the node that was read at a place
pub held : (ops : List Op) (place : ℕ) (op : Op) → place < length ops → op ≡ get_or ops place op → at ops place ≡ op
held [] place op h is = absurd (omega arith)
held (x ∷ ops) zero op h is = sym is
held (x ∷ ops) (suc place) op h is = held ops place op (omega arith) is
