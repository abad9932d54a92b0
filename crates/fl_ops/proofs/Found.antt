-- What the readers of names and operations owe where they find one.
use Rattle.std.proofs.Common.{None, Some, slice_index, ◌≡◌, ◌≢◌, ℕ, ◌+◌, ◌-◌, ◌*◌, ◌<◌, ◌≤◌, true, List, [], ◌∷◌, ◌++◌, length, get_or, take, drop, sym, ap, subst, refl, ◌∙◌, arith, append_assoc, length-drop, get_or-drop}
use Rattle.std.proofs.lemmas.List.{drop-drop}
use Rattle.std.specs.Int.{w16, w32, to_be_bytes, from_be_bytes}
use Rattle.std.proofs.lemmas.Nat.{be_bytes_2, be_bytes_4}
use Rattle.std.proofs.lemmas.Bool.{le-leb, lt-ltb}
use Rattle.fl_labels.specs.declared.name.Name.{Name}
use Rattle.fl_ops.specs.declared.format.Format.{Format}
use Rattle.fl_ops.specs.declared.op.Body.{Body}
use Rattle.fl_ops.specs.declared.op.Op.{Op}
use Rattle.fl_ops.specs.Format.{format_byte, node_width, node_size, last_kind}
use Rattle.fl_ops.specs.Bytes.{name_bytes, name_size, kind_byte, body_bytes, body_place, op_bytes}
use Rattle.fl_ops.specs.Fits.{HasName, HasBody, HasOp}
use Rattle.fl_ops.specs.Grammar.{node_at, has_name, has_byte, format_of, body_fields, later_fields, first_fault, op_fault}
use Rattle.fl_ops.specs.laws.Spelled.{there, later_there}

-- each cell is a byte
abbrev pub IsBytes : List ℕ → Type 0
IsBytes bs = (i : ℕ) → get_or bs i 0 < 256

two_cells : (a b i : ℕ) → a < 256 → b < 256 → get_or (a ∷ b ∷ []) i 0 < 256
two_cells a b i p q = grind arith

four_cells : (a b c d i : ℕ) → a < 256 → b < 256 → c < 256 → d < 256 → get_or (a ∷ b ∷ c ∷ d ∷ []) i 0 < 256
four_cells a b c d i p q r s = grind arith

-- the number that two cells at the front spell, and four
two_front : (ds field : List ℕ) (n : ℕ) → 2 ≤ length ds → IsBytes ds → field ≡ take 2 ds → n ≡ get_or field 0 0 * 256 + get_or field 1 0
    → (n ≡ from_be_bytes w16 (take 2 ds)) × (ds ≡ to_be_bytes w16 n ++ drop 2 ds)
two_front (a ∷ b ∷ ds) field n long fits same p =
    let value : n ≡ from_be_bytes w16 (a ∷ b ∷ []) = p ∙ ap (λ l. get_or l 0 0 * 256 + get_or l 1 0) same in
    let cells = be_bytes_2 (a ∷ b ∷ []) n refl (λ i. two_cells a b i (fits 0) (fits 1)) value in
    (value, λ i. sym cells i ++ ds)
two_front ds field n long fits same p = absurd (omega arith)

four_front : (ds field : List ℕ) (n : ℕ) → 4 ≤ length ds → IsBytes ds → field ≡ take 4 ds
    → n ≡ ((get_or field 0 0 * 16777216 + get_or field 1 0 * 65536) + get_or field 2 0 * 256) + get_or field 3 0
    → (n ≡ from_be_bytes w32 (take 4 ds)) × (ds ≡ to_be_bytes w32 n ++ drop 4 ds)
four_front (a ∷ b ∷ c ∷ d ∷ ds) field n long fits same p =
    let value : n ≡ from_be_bytes w32 (a ∷ b ∷ c ∷ d ∷ []) =
    p ∙ ap (λ l. ((get_or l 0 0 * 16777216 + get_or l 1 0 * 65536) + get_or l 2 0 * 256) + get_or l 3 0) same in
    let cells = be_bytes_4 (a ∷ b ∷ c ∷ d ∷ []) n refl (λ i. four_cells a b c d i (fits 0) (fits 1) (fits 2) (fits 3)) value in
    (value, λ i. sym cells i ++ ds)
four_front ds field n long fits same p = absurd (omega arith)

module _ (bs : List ℕ) (at : ℕ) (fits : IsBytes bs) where
  dropped : IsBytes (drop at bs)
  dropped i = subst (λ n. n < 256) (sym (get_or-drop at bs i 0)) (fits (at + i))

  -- and at a place
  pub two_found : (field : List ℕ) (n : ℕ) → at + 2 ≤ length bs → field ≡ take (at + 2 - at) (drop at bs)
      → n ≡ get_or field 0 0 * 256 + get_or field 1 0
      → (n ≡ from_be_bytes w16 (take 2 (drop at bs))) × (drop at bs ≡ to_be_bytes w16 n ++ drop (at + 2) bs)
  two_found field n within is p =
      let two : at + 2 - at ≡ 2 = omega arith in
      let front = two_front (drop at bs) field n (omega (arith, length-drop at bs)) dropped (is ∙ ap (λ k. take k (drop at bs)) two) p in
      (front.0, front.1 ∙ ap (λ l. to_be_bytes w16 n ++ l) (drop-drop 2 at bs))

  pub four_found : (field : List ℕ) (n : ℕ) → at + 4 ≤ length bs → field ≡ take (at + 4 - at) (drop at bs)
      → n ≡ ((get_or field 0 0 * 16777216 + get_or field 1 0 * 65536) + get_or field 2 0 * 256) + get_or field 3 0
      → (n ≡ from_be_bytes w32 (take 4 (drop at bs))) × (drop at bs ≡ to_be_bytes w32 n ++ drop (at + 4) bs)
  four_found field n within is p =
      let four : at + 4 - at ≡ 4 = omega arith in
      let front = four_front (drop at bs) field n (omega (arith, length-drop at bs)) dropped (is ∙ ap (λ k. take k (drop at bs)) four) p in
      (front.0, front.1 ∙ ap (λ l. to_be_bytes w32 n ++ l) (drop-drop 4 at bs))

-- what `name_at` owes where it answers a name
pub name_found : (f : Format) (bs : List ℕ) (at size node seq : ℕ) → size ≡ node_size f → at + size + 4 ≤ length bs
    → node ≢ 0 → seq ≢ 0 → node ≡ node_at f bs at → drop at bs ≡ to_be_bytes (node_width f) node ++ drop (at + node_size f) bs
    → seq ≡ from_be_bytes w32 (take 4 (drop (at + size) bs)) → drop (at + size) bs ≡ to_be_bytes w32 seq ++ drop (at + size + 4) bs
    → (has_name f bs at ≡ true) × (drop at bs ≡ (to_be_bytes (node_width f) node ++ to_be_bytes w32 seq) ++ drop (at + name_size f) bs)
name_found f bs at size node seq sized within some_node some_seq value first number second =
    let place : at + size ≡ at + node_size f = omega (arith, sized) in
    let end : at + size + 4 ≡ at + name_size f = omega (arith, sized) in
    let is : seq ≡ from_be_bytes w32 (take 4 (drop (at + node_size f) bs)) = number ∙ ap (λ p. from_be_bytes w32 (take 4 (drop p bs))) place in
    let rest : drop (at + node_size f) bs ≡ to_be_bytes w32 seq ++ drop (at + name_size f) bs =
    sym (ap (λ p. drop p bs) place) ∙ second ∙ ap (λ p. to_be_bytes w32 seq ++ drop p bs) end in (
      rw (le-leb (at + name_size f) (length bs) (omega (arith, within, end)), ← value, ← is, lt-ltb 0 node (omega arith), lt-ltb 0 seq (omega arith)) refl,
      first ∙ ap (λ l. to_be_bytes (node_width f) node ++ l) rest
          ∙ sym (append_assoc (to_be_bytes (node_width f) node) (to_be_bytes w32 seq) (drop (at + name_size f) bs)),
    )

-- as much as two parts, of what begins with the first
take_part : (a b d : List ℕ) → take (length (a ++ b)) (a ++ d) ≡ a ++ take (length b) d
take_part [] b d = refl
take_part (x ∷ a) b d = ap (λ l. x ∷ l) (take_part a b d)

-- the kind of an operation, of which this is the greatest
abbrev Kind : List ℕ → ℕ → ℕ → Type 0
Kind bs most kind = (has_byte bs 1 1 most ≡ true) × (kind ≡ slice_index bs 1) × (1 ≤ kind) × (kind ≤ most) × (drop 1 bs ≡ kind ∷ drop 2 bs)

-- what `decode` owes where it answers an operation of a format
abbrev Decoded : List ℕ → Op → ℕ → Format → Type 0
Decoded bs op end f = (first_fault ((0, has_byte bs 0 1 2) ∷ later_fields f bs 0) ≡ None)
    × (HasOp f op × (end ≡ length (op_bytes f op)) × (take end bs ≡ op_bytes f op))

pub op_found : (bs : List ℕ) (f : Format) (most kind : ℕ) (name : Name) (body : Body) (end : ℕ)
    → (has_byte bs 0 1 2 ≡ true) × (f ≡ format_of (slice_index bs 0)) × (drop 0 bs ≡ format_byte f ∷ drop 1 bs)
    → most ≡ last_kind f → Kind bs most kind
    → (has_name f bs 2 ≡ true) × HasName f name × (drop 2 bs ≡ name_bytes f name ++ drop (2 + name_size f) bs)
    → (first_fault (body_fields f bs kind (body_place f)) ≡ None) × (kind_byte body ≡ kind) × HasBody f body
    × (take (length (body_bytes f body)) (drop (body_place f) bs) ≡ body_bytes f body)
    → end ≡ length (op_bytes f (record { name = name; body = body }))
    → Decoded bs (record { name = name; body = body }) end (format_of (slice_index bs 0))
op_found bs f most kind name body end first last second named rest same =
    let op : Op = record { name = name; body = body } in
    let place : body_place f ≡ 0 + body_place f = omega arith in
    let fields : first_fault (body_fields f bs (slice_index bs 1) (0 + body_place f)) ≡ None =
    sym (λ i. first_fault (body_fields f bs (second.1 i) (place i))) ∙ rest.0 in
    let whole : bs ≡ format_byte f ∷ kind ∷ (name_bytes f name ++ drop (body_place f) bs) =
    first.2 ∙ ap (λ l. format_byte f ∷ l) (second.4 ∙ ap (λ l. kind ∷ l) named.2) in
    let front : take (length (op_bytes f op)) bs ≡ op_bytes f op =
    ap (take (length (op_bytes f op))) whole
    ∙ (λ i. format_byte f ∷ sym rest.1 i ∷ (take_part (name_bytes f name) (body_bytes f body) (drop (body_place f) bs) ∙ ap (λ l. name_bytes f name ++ l) rest.3) i) in
    let all : Decoded bs op end f = (
      there 0 (later_fields f bs 0) first.0 (later_there bs f 0 (ap (λ m. has_byte bs 1 1 m) (sym last) ∙ second.0) named.0 fields),
      (record { name = named.1; body = rest.2 }, same, ap (λ n. take n bs) same ∙ front),
    ) in
    subst (Decoded bs op end) first.1 all

-- and where the body is at fault
pub op_faulty : (bs : List ℕ) (f : Format) (most kind at : ℕ)
    → (has_byte bs 0 1 2 ≡ true) × (f ≡ format_of (slice_index bs 0)) × (drop 0 bs ≡ format_byte f ∷ drop 1 bs)
    → most ≡ last_kind f → Kind bs most kind
    → has_name f bs 2 ≡ true → first_fault (body_fields f bs kind (body_place f)) ≡ Some at → op_fault bs ≡ Some at
op_faulty bs f most kind at first last second named fault =
    let place : body_place f ≡ 0 + body_place f = omega arith in
    let fields : first_fault (body_fields f bs (slice_index bs 1) (0 + body_place f)) ≡ Some at =
    sym (λ i. first_fault (body_fields f bs (second.1 i) (place i))) ∙ fault in
    subst (λ g. first_fault ((0, has_byte bs 0 1 2) ∷ later_fields g bs 0) ≡ Some at) first.1
    (rw (first.0, ← last, second.0, named) fields)
