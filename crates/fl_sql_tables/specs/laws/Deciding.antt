-- Whether bytes spell an operation, and which, is decided: an operation is guessed from the numbers at the places of its
-- fields, and its own bytes are compared with the given ones.
use Rattle.std.proofs.Common.{◌≡◌, ℕ, Bool, true, false, ◌&&◌, ◌==◌, if◌then◌else◌, List, [], ◌∷◌, ◌++◌, length, take, drop, slice_index, nat_lt, nat_le, Option, Some, None, refl, sym, ap, subst, ◌∙◌, append-nil, cond}
use Rattle.std.specs.Option.{option_and_then, option_map}
use Rattle.std.specs.Int.{w32, from_be_bytes}
use Rattle.std.specs.Ordering.{nat_cmp, eq_by_cmp, is_eq}
use Rattle.std.specs.declared.cmp.Ordering.{Ordering}
use Rattle.std.specs.declared.cmp.Ordering.TheVariants.{Less, Equal, Greater}
use Rattle.std.specs.Cmp.{eq_by_cmp_equiv}
use Rattle.std.specs.Cmp.Lexicographic.{slice_cmp}
use Rattle.std.specs.FinMap.{slice_cmp-IsAntisymmetric, nat_cmp-IsAntisymmetric}
use Rattle.std.proofs.lemmas.Cmp.{nat_list_cmp_total}
use Rattle.std.proofs.lemmas.Bool.{and_parts, lt-ltb, ltb-true, le-leb, leb-true, eq-eqb, eqb-true}
use Rattle.fl_labels.specs.declared.name.Name.{Name}
use Rattle.fl_labels.specs.declared.cap.Cap.{Cap}
use Rattle.fl_labels.specs.declared.cap.Cap.TheVariants.{Plus, Minus, Use, Grow}
use Rattle.fl_labels.specs.Cap.{cap_name}
use Rattle.fl_labels.specs.NameOrder.{same_name}
use Rattle.fl_ops.specs.declared.digest.Digest.{Digest}
use Rattle.fl_ops.specs.declared.format.Format.{Format}
use Rattle.fl_ops.specs.declared.format.Format.TheVariants.{One, Two}
use Rattle.fl_ops.specs.declared.op.Policy.{Policy}
use Rattle.fl_ops.specs.declared.op.Policy.TheVariants.{Export, Read, Integrity}
use Rattle.fl_ops.specs.declared.op.Body.{Body}
use Rattle.fl_ops.specs.declared.op.Body.TheVariants.{MakeTag, MakeGroup, Put, MakeLogin, Open}
use Rattle.fl_ops.specs.declared.op.Op.{Op}
use Rattle.fl_ops.specs.Format.{format_byte, node_width, node_size, node_limit, last_kind}
use Rattle.fl_ops.specs.Bytes.{name_bytes, cap_bytes, name_size, cap_size, policy_byte, kind_byte, body_bytes, body_place, op_bytes}
use Rattle.fl_ops.specs.Fits.{HasName, HasCap, HasNames, HasOp}
use Rattle.fl_ops.specs.Grammar.{format_of}
use Rattle.fl_ops.specs.OpLaws.{same_digest}
use Rattle.fl_ops.specs.laws.Spelled.{name_parts}
use Rattle.fl_sql_tables.specs.Spells.{Spells, Reads}

-- ---- the guess

abbrev are_in_range : ℕ → ℕ → Bool
are_in_range node seq = nat_lt 0 node && (nat_lt node 4294967296 && (nat_lt 0 seq && nat_lt seq 4294967296))

abbrev name_if : (node seq : ℕ) (b : Bool) → are_in_range node seq ≡ b → Option Name
name_if node seq true h =
    let first = and_parts _ _ h in
    let second = and_parts _ _ first.1 in
    let third = and_parts _ _ second.1 in
    Some (record {
      node = node;
      seq = seq;
      node_in_range = (ltb-true _ _ first.0, ltb-true _ _ second.0);
      seq_in_range = (ltb-true _ _ third.0, ltb-true _ _ third.1);
    })
name_if node seq false h = None

abbrev name_of : ℕ → ℕ → Option Name
name_of node seq = name_if node seq (are_in_range node seq) refl

abbrev digest_if : (bytes : List ℕ) (b : Bool) → (length bytes == 32) ≡ b → Option Digest
digest_if bytes true h = Some (record { bytes = bytes; sized = eqb-true _ _ h })
digest_if bytes false h = None

abbrev digest_of : List ℕ → Option Digest
digest_of bytes = digest_if bytes (length bytes == 32) refl

abbrev policy_of : ℕ → Policy
policy_of byte = if byte == 1 then Export else (if byte == 2 then Read else Integrity)

abbrev cap_of : ℕ → Name → Cap
cap_of kind name =
    if kind == 1 then Plus name else (if kind == 2 then Minus name else (if kind == 3 then Use name else Grow name))

module _ (f : Format) where
  abbrev name_in : List ℕ → Option Name
  name_in bytes =
      name_of (from_be_bytes (node_width f) (take (node_size f) bytes)) (from_be_bytes w32 (take 4 (drop (node_size f) bytes)))

  abbrev cap_in : List ℕ → Option Cap
  cap_in bytes = option_map (cap_of (slice_index bytes 0)) (name_in (drop 1 bytes))

  abbrev body_in : ℕ → List ℕ → Option Body
  body_in kind bytes =
      if kind == 1 then Some (MakeTag (policy_of (slice_index bytes 0)))
      else (if kind == 2 then Some MakeGroup
      else (if kind == 3 then option_and_then (λ g. option_map (Put g) (cap_in (drop (name_size f) bytes))) (name_in bytes)
      else (if kind == 4 then option_and_then (λ c. option_map (MakeLogin c) (digest_of (drop (cap_size f) bytes))) (cap_in bytes)
      else option_map Open (name_in bytes))))

  abbrev op_in : List ℕ → Option Op
  op_in bytes = option_and_then
      (λ n. option_map (λ b. record { name = n; body = b }) (body_in (slice_index bytes 1) (drop (body_place f) bytes)))
      (name_in (drop 2 bytes))

-- ---- is right of what an operation spells

all_four : {a b c d : Bool} → a ≡ true → b ≡ true → c ≡ true → d ≡ true → (a && (b && (c && d))) ≡ true
all_four p q r s = rw (p, q, r, s) refl

in_range : (n : Name) → are_in_range n.node n.seq ≡ true
in_range n = all_four (lt-ltb 0 n.node n.node_in_range.0) (lt-ltb n.node 4294967296 n.node_in_range.1)
    (lt-ltb 0 n.seq n.seq_in_range.0) (lt-ltb n.seq 4294967296 n.seq_in_range.1)

name_if_back : (n : Name) (b : Bool) (h : are_in_range n.node n.seq ≡ b) → b ≡ true → name_if n.node n.seq b h ≡ Some n
name_if_back n true h e = ap Some (same_name _ n refl refl)
name_if_back n false h e = absurd (cc)

digest_if_back : (d : Digest) (b : Bool) (h : (length d.bytes == 32) ≡ b) → b ≡ true → digest_if d.bytes b h ≡ Some d
digest_if_back d true h e = ap Some (same_digest _ d refl)
digest_if_back d false h e = absurd (cc)

digest_back : (d : Digest) → digest_of d.bytes ≡ Some d
digest_back d = digest_if_back d (length d.bytes == 32) refl (eq-eqb _ _ d.sized)

policy_back : (p : Policy) → policy_of (policy_byte p) ≡ p
policy_back Export = refl
policy_back Read = refl
policy_back Integrity = refl

name_back : (f : Format) (n : Name) (rest : List ℕ) → HasName f n → name_in f (name_bytes f n ++ rest) ≡ Some n
name_back f n rest has =
    let parts = name_parts f n rest has in
    (λ i. name_of (parts.node i) (parts.seq i)) ∙ name_if_back n (are_in_range n.node n.seq) refl (in_range n)

cap_back : (f : Format) (c : Cap) (rest : List ℕ) → HasCap f c → cap_in f (cap_bytes f c ++ rest) ≡ Some c
cap_back f (Plus n) rest has = ap (option_map (cap_of 1)) (name_back f n rest has)
cap_back f (Minus n) rest has = ap (option_map (cap_of 2)) (name_back f n rest has)
cap_back f (Use n) rest has = ap (option_map (cap_of 3)) (name_back f n rest has)
cap_back f (Grow n) rest has = ap (option_map (cap_of 4)) (name_back f n rest has)

cap_after : (f : Format) (c : Cap) (rest : List ℕ) → drop (cap_size f) (cap_bytes f c ++ rest) ≡ rest
cap_after One c rest = refl
cap_after Two c rest = refl

body_back : (f : Format) (b : Body) → HasNames f b → body_in f (kind_byte b) (body_bytes f b) ≡ Some b
body_back f (MakeTag p) has = ap (λ p. Some (MakeTag p)) (policy_back p)
body_back f MakeGroup has = refl
body_back f (Put g c) has =
    let rest = cap_bytes f c in
    let after = (name_parts f g rest has.0).after in
    let last : cap_in f rest ≡ Some c = ap (cap_in f) (sym (append-nil rest)) ∙ cap_back f c [] has.1 in
    (λ i. option_and_then (λ g. option_map (Put g) (cap_in f (after i))) (name_back f g rest has.0 i)) ∙ ap (option_map (Put g)) last
body_back f (MakeLogin c d) has =
    (λ i. option_and_then (λ x. option_map (MakeLogin x) (digest_of (cap_after f c d.bytes i))) (cap_back f c d.bytes has i))
    ∙ ap (option_map (MakeLogin c)) (digest_back d)
body_back f (Open g) has =
    ap (option_map Open) (ap (name_in f) (sym (append-nil (name_bytes f g))) ∙ name_back f g [] has)

body_after : (f : Format) (op : Op) → drop (body_place f) (op_bytes f op) ≡ body_bytes f op.body
body_after One op = refl
body_after Two op = refl

op_back : (f : Format) (op : Op) → HasOp f op → op_in f (op_bytes f op) ≡ Some op
op_back f op has =
    let named = name_back f op.name (body_bytes f op.body) has.name in
    (λ i. option_and_then (λ n. option_map (λ b. record { name = n; body = b }) (body_in f (kind_byte op.body) (body_after f op i))) (named i))
    ∙ ap (option_map (λ b. record { name = op.name; body = b })) (body_back f op.body has.body.names)

-- ---- and is compared

has_name : Format → Name → Bool
has_name f n = nat_lt n.node (node_limit f)

has_names : Format → Body → Bool
has_names f (MakeTag p) = true
has_names f MakeGroup = true
has_names f (Put g c) = has_name f g && has_name f (cap_name c)
has_names f (MakeLogin c d) = has_name f (cap_name c)
has_names f (Open g) = has_name f g

names_fit : (f : Format) (body : Body) → has_names f body ≡ true → HasNames f body
unfolding has_names has_name
names_fit f (MakeTag p) h = tt
names_fit f MakeGroup h = tt
names_fit f (Put g c) h = let both = and_parts _ _ h in (ltb-true _ _ both.0, ltb-true _ _ both.1)
names_fit f (MakeLogin c d) h = ltb-true _ _ h
names_fit f (Open g) h = ltb-true _ _ h

fit_names : (f : Format) (body : Body) → HasNames f body → has_names f body ≡ true
unfolding has_names has_name
fit_names f (MakeTag p) h = refl
fit_names f MakeGroup h = refl
fit_names f (Put g c) h = rw (lt-ltb _ _ h.0, lt-ltb _ _ h.1) refl
fit_names f (MakeLogin c d) h = lt-ltb _ _ h
fit_names f (Open g) h = lt-ltb _ _ h

abbrev is_spelling : Format → List ℕ → Op → Bool
is_spelling f bytes op =
    has_name f op.name && (nat_le (kind_byte op.body) (last_kind f)
    && (has_names f op.body && eq_by_cmp (slice_cmp nat_cmp) (op_bytes f op) bytes))

is_equal : (o : Ordering) → is_eq o ≡ true → o ≡ Equal
is_equal Less e = absurd (cc)
is_equal Equal e = refl
is_equal Greater e = absurd (cc)

spelling_is : (f : Format) (bytes : List ℕ) (op : Op) → is_spelling f bytes op ≡ true → HasOp f op × (op_bytes f op ≡ bytes)
unfolding has_name
spelling_is f bytes op h =
    let first = and_parts _ _ h in
    let second = and_parts _ _ first.1 in
    let third = and_parts _ _ second.1 in (
      record { name = ltb-true _ _ first.0; body = record { kind = leb-true _ _ second.0; names = names_fit f op.body third.0 } },
      slice_cmp-IsAntisymmetric nat_cmp-IsAntisymmetric (op_bytes f op) bytes (is_equal _ third.1),
    )

is_spelling_of : (f : Format) (bytes : List ℕ) (op : Op) → HasOp f op → op_bytes f op ≡ bytes → is_spelling f bytes op ≡ true
unfolding has_name
is_spelling_of f bytes op has e =
    let same : eq_by_cmp (slice_cmp nat_cmp) (op_bytes f op) bytes ≡ true =
    subst (λ l. eq_by_cmp (slice_cmp nat_cmp) (op_bytes f op) l ≡ true) e ((eq_by_cmp_equiv nat_list_cmp_total).refl (op_bytes f op)) in
    all_four (lt-ltb _ _ has.name) (le-leb _ _ has.body.kind) (fit_names f op.body has.body.names) same

-- ---- so it is decided

said : (f : Format) → format_of (format_byte f) ≡ f
said One = refl
said Two = refl

module _ (bytes : List ℕ) where
  abbrev format : Format
  format = format_of (slice_index bytes 0)

  format_is : (f : Format) (op : Op) → op_bytes f op ≡ bytes → f ≡ format
  format_is f op e = sym (said f) ∙ ap (λ l. format_of (slice_index l 0)) e

  guess_is : (op : Op) → Spells bytes op → (op_in format bytes ≡ Some op) × (is_spelling format bytes op ≡ true)
  guess_is op (f, has, e) =
      let is = format_is f op e in (
        (λ i. op_in (sym is i) (sym e i)) ∙ op_back f op has,
        subst (λ g. is_spelling g bytes op ≡ true) is (is_spelling_of f bytes op has e),
      )

  none_guessed : op_in format bytes ≡ None → Reads bytes None
  none_guessed none op h = absurd (let wrong : None ≡ Some op = sym none ∙ (guess_is op h).0 in cc)

  by_test : (op : Op) → op_in format bytes ≡ Some op → (b : Bool) → is_spelling format bytes op ≡ b
      → (o : Option Op) × Reads bytes o
  by_test op is true h = let it = spelling_is format bytes op h in (Some op, (format, it.0, it.1))
  by_test op is false h = (
    None,
    λ other spells.
        let both : Some op ≡ Some other = sym is ∙ (guess_is other spells).0 in
        let same : op ≡ other = cc in
        absurd (let wrong : false ≡ true = sym h ∙ ap (is_spelling format bytes) same ∙ (guess_is other spells).1 in cc),
  )

  by_guess : (o : Option Op) → op_in format bytes ≡ o → (o : Option Op) × Reads bytes o
  by_guess None is = (None, none_guessed is)
  by_guess (Some op) is = by_test op is (is_spelling format bytes op) refl

-- what bytes spell, if they spell an operation
pub reads : (bytes : List ℕ) → (o : Option Op) × Reads bytes o
reads bytes = by_guess bytes (op_in (format bytes) bytes) refl
