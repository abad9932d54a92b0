-- What stands at a place where the bytes are spelled so, in either format.
use Rattle.std.proofs.Common.{◌≡◌, ℕ, zero, suc, ◌+◌, ◌≤◌, ◌<◌, Bool, true, ◌&&◌, if◌then◌else◌, List, [], ◌∷◌, ◌++◌, length, get_or, take, drop, slice_index, nat_lt, Some, None, refl, sym, ap, ◌∙◌, arith, lit≤, add-zero, append_assoc, length-append, length-drop, get_or-drop}
use Rattle.std.specs.List.{AllByRecursion}
use Rattle.std.specs.Int.{w32, from_be_bytes}
use Rattle.std.proofs.lemmas.Nat.{from_be_bytes-to_be_bytes_2, from_be_bytes-to_be_bytes_4}
use Rattle.std.proofs.lemmas.Bool.{le-leb, lt-ltb}
use Rattle.std.proofs.lemmas.List.{drop-drop}
use Rattle.fl_labels.specs.declared.name.Name.{Name}
use Rattle.fl_labels.specs.declared.cap.Cap.{Cap}
use Rattle.fl_labels.specs.declared.cap.Cap.TheVariants.{Plus, Minus, Use, Grow}
use Rattle.fl_labels.specs.Cap.{cap_name, cap_rank}
use Rattle.fl_ops.specs.declared.format.Format.{Format}
use Rattle.fl_ops.specs.declared.format.Format.TheVariants.{One, Two}
use Rattle.fl_ops.specs.declared.op.Policy.{Policy}
use Rattle.fl_ops.specs.declared.op.Policy.TheVariants.{Export, Read, Integrity}
use Rattle.fl_ops.specs.declared.op.Body.{Body}
use Rattle.fl_ops.specs.declared.op.Body.TheVariants.{MakeTag, MakeGroup, Put, MakeLogin, Open}
use Rattle.fl_ops.specs.declared.op.Op.{Op}
use Rattle.fl_ops.specs.Format.{format_byte, node_width, node_size, last_kind}
use Rattle.fl_ops.specs.Bytes.{name_bytes, cap_bytes, name_size, cap_size, policy_byte, kind_byte, body_bytes, body_place, op_bytes}
use Rattle.fl_ops.specs.Fits.{HasName, HasCap, HasBody, HasOp}
use Rattle.fl_ops.specs.Grammar.{first_fault, has_byte, node_at, has_name, body_fields, later_fields}

-- the parts of a name's bytes, before whatever follows it
pub record NameParts (f : Format) (n : Name) (rest : List ℕ) : Type 0 where
  pub node : from_be_bytes (node_width f) (take (node_size f) (name_bytes f n ++ rest)) ≡ n.node
  pub seq : from_be_bytes w32 (take 4 (drop (node_size f) (name_bytes f n ++ rest))) ≡ n.seq
  pub after : drop (name_size f) (name_bytes f n ++ rest) ≡ rest
  pub size : length (name_bytes f n) ≡ name_size f

pub name_parts : (f : Format) (n : Name) (rest : List ℕ) → HasName f n → NameParts f n rest
name_parts One n rest h = record {
  node = from_be_bytes-to_be_bytes_2 n.node h;
  seq = from_be_bytes-to_be_bytes_4 n.seq n.seq_in_range.1;
  after = refl;
  size = refl;
}
name_parts Two n rest h = record {
  node = from_be_bytes-to_be_bytes_4 n.node h;
  seq = from_be_bytes-to_be_bytes_4 n.seq n.seq_in_range.1;
  after = refl;
  size = refl;
}

pub rank_range : (c : Cap) → (1 ≤ cap_rank c) × (cap_rank c ≤ 4)
rank_range (Plus n) = (lit≤ tt, lit≤ tt)
rank_range (Minus n) = (lit≤ tt, lit≤ tt)
rank_range (Use n) = (lit≤ tt, lit≤ tt)
rank_range (Grow n) = (lit≤ tt, lit≤ tt)

policy_range : (p : Policy) → (1 ≤ policy_byte p) × (policy_byte p ≤ 3)
policy_range Export = (lit≤ tt, lit≤ tt)
policy_range Read = (lit≤ tt, lit≤ tt)
policy_range Integrity = (lit≤ tt, lit≤ tt)

kind_least : (body : Body) → 1 ≤ kind_byte body
kind_least (MakeTag p) = lit≤ tt
kind_least MakeGroup = lit≤ tt
kind_least (Put g c) = lit≤ tt
kind_least (MakeLogin c d) = lit≤ tt
kind_least (Open g) = lit≤ tt

all_three : {a b c : Bool} → a ≡ true → b ≡ true → c ≡ true → (a && (b && c)) ≡ true
all_three p q r = rw (p, q, r) refl

-- a field that is there, before others
pub there : (place : ℕ) (fs : List (ℕ × Bool)) {is : Bool} → is ≡ true → first_fault fs ≡ None
    → first_fault ((place, is) ∷ fs) ≡ None
there place fs h rest = ap (λ b. if b then first_fault fs else Some place) h ∙ rest

no_faults : (fs : List (ℕ × Bool)) → AllByRecursion (λ f. f.1 ≡ true) fs → first_fault fs ≡ None
no_faults [] h = refl
no_faults (f ∷ fs) h = there f.0 fs h.0 (no_faults fs h.1)

module _ (bs : List ℕ) where
  -- behind a part, at another place
  pub behind : (at n : ℕ) (part rest : List ℕ) → length part ≡ n → drop at bs ≡ part ++ rest → drop (at + n) bs ≡ rest
  behind at n part rest long e = sym (drop-drop n at bs) ∙ ap (drop n) e ∙ over part rest n long
    where
      over : (part rest : List ℕ) (n : ℕ) → length part ≡ n → drop n (part ++ rest) ≡ rest
      over [] rest zero long = refl
      over [] rest (suc n) long = absurd (omega arith)
      over (x ∷ part) rest zero long = absurd (omega arith)
      over (x ∷ part) rest (suc n) long = over part rest n (omega arith)

  pub within : (at n : ℕ) (part rest : List ℕ) → length part ≡ n → 0 < n → drop at bs ≡ part ++ rest → at + n ≤ length bs
  within at n part rest long some e =
      let whole : length (drop at bs) ≡ length part + length rest = ap length e ∙ length-append part rest in
      omega (arith, whole, length-drop at bs, long, some)

  pub byte_is : (at b : ℕ) (rest : List ℕ) (low high : ℕ) → low ≤ b → b ≤ high → drop at bs ≡ b ∷ rest
      → (has_byte bs at low high ≡ true) × (slice_index bs at ≡ b) × (drop (at + 1) bs ≡ rest)
  byte_is at b rest low high p q e =
      let inside : at < length bs = omega (arith, within at 1 (b ∷ []) rest refl (omega arith) e) in
      let here : slice_index bs at ≡ b = ap (λ n. get_or bs n 0) (sym (add-zero at)) ∙ sym (get_or-drop at bs 0 0) ∙ ap (λ l. get_or l 0 0) e in (
        rw (lt-ltb at (length bs) inside, here, le-leb low b p, le-leb b high q) refl,
        here,
        behind at 1 (b ∷ []) rest refl e,
      )

  -- a name: that it is there, its two numbers, and what follows it
  pub record NameIs (f : Format) (at : ℕ) (n : Name) (rest : List ℕ) : Type 0 where
    pub there : has_name f bs at ≡ true
    pub node : node_at f bs at ≡ n.node
    pub seq : from_be_bytes w32 (take 4 (drop (at + node_size f) bs)) ≡ n.seq
    pub after : drop (at + name_size f) bs ≡ rest

  pub name_is : (f : Format) (at : ℕ) (n : Name) (rest : List ℕ) → HasName f n → drop at bs ≡ name_bytes f n ++ rest
      → NameIs f at n rest
  name_is f at n rest has e =
      let parts = name_parts f n rest has in
      let node : node_at f bs at ≡ n.node = ap (λ l. from_be_bytes (node_width f) (take (node_size f) l)) e ∙ parts.node in
      let seq : from_be_bytes w32 (take 4 (drop (at + node_size f) bs)) ≡ n.seq =
      ap (λ l. from_be_bytes w32 (take 4 l)) (sym (drop-drop (node_size f) at bs) ∙ ap (drop (node_size f)) e) ∙ parts.seq in
      let some : 0 < name_size f = omega arith in record {
        there = all_three (le-leb (at + name_size f) (length bs) (within at (name_size f) (name_bytes f n) rest parts.size some e))
            (ap (nat_lt 0) node ∙ lt-ltb 0 n.node n.node_in_range.0) (ap (nat_lt 0) seq ∙ lt-ltb 0 n.seq n.seq_in_range.0);
        node = node;
        seq = seq;
        after = behind at (name_size f) (name_bytes f n) rest parts.size e;
      }

  -- a capability: its kind, its name, and what follows it
  pub record CapIs (f : Format) (at : ℕ) (c : Cap) (rest : List ℕ) : Type 0 where
    pub kind : has_byte bs at 1 4 ≡ true
    pub rank : slice_index bs at ≡ cap_rank c
    pub name : NameIs f (at + 1) (cap_name c) rest
    pub after : drop (at + cap_size f) bs ≡ rest

  pub cap_is : (f : Format) (at : ℕ) (c : Cap) (rest : List ℕ) → HasCap f c → drop at bs ≡ cap_bytes f c ++ rest
      → CapIs f at c rest
  cap_is f at c rest has e =
      let range = rank_range c in
      let first = byte_is at (cap_rank c) (name_bytes f (cap_name c) ++ rest) 1 4 range.0 range.1 e in
      let second = name_is f (at + 1) (cap_name c) rest has first.2 in
      let place : at + cap_size f ≡ at + 1 + name_size f = omega arith in record {
        kind = first.0;
        rank = first.1;
        name = second;
        after = ap (λ p. drop p bs) place ∙ second.after;
      }

  -- what follows the name of an operation
  pub body_is : (f : Format) (at : ℕ) (body : Body) (rest : List ℕ) → HasBody f body → drop at bs ≡ body_bytes f body ++ rest
      → first_fault (body_fields f bs (kind_byte body) at) ≡ None
  body_is f at (MakeTag p) rest has e =
      let range = policy_range p in
      no_faults (body_fields f bs 1 at) ((byte_is at (policy_byte p) rest 1 3 range.0 range.1 e).0, tt)
  body_is f at MakeGroup rest has e = refl
  body_is f at (Put g c) rest has e =
      let first = name_is f at g (cap_bytes f c ++ rest) has.names.0 (e ∙ append_assoc (name_bytes f g) (cap_bytes f c) rest) in
      let second = cap_is f (at + name_size f) c rest has.names.1 first.after in
      no_faults (body_fields f bs 3 at) (first.there, (second.kind, (second.name.there, tt)))
  body_is f at (MakeLogin c d) rest has e =
      let first = cap_is f at c (d.bytes ++ rest) has.names (e ∙ append_assoc (cap_bytes f c) d.bytes rest) in
      let second = le-leb (at + cap_size f + 32) (length bs) (within (at + cap_size f) 32 d.bytes rest d.sized (omega arith) first.after) in
      no_faults (body_fields f bs 4 at) (first.kind, (first.name.there, (second, tt)))
  body_is f at (Open g) rest has e = no_faults (body_fields f bs 5 at) ((name_is f at g rest has.names e).there, tt)

  -- what follows its format
  pub later_there : (f : Format) (at : ℕ) → has_byte bs (at + 1) 1 (last_kind f) ≡ true → has_name f bs (at + 2) ≡ true
      → first_fault (body_fields f bs (slice_index bs (at + 1)) (at + body_place f)) ≡ None → first_fault (later_fields f bs at) ≡ None
  later_there f at first second rest =
      let body = body_fields f bs (slice_index bs (at + 1)) (at + body_place f) in
      there (at + 1) ((at + 2, has_name f bs (at + 2)) ∷ body) first (there (at + 2) body second rest)

  -- an operation: its format, its kind, its name, and that no later field has a fault
  pub record OpIs (f : Format) (at : ℕ) (op : Op) (rest : List ℕ) : Type 0 where
    pub format : slice_index bs at ≡ format_byte f
    pub exact : has_byte bs at (format_byte f) (format_byte f) ≡ true
    pub kind : slice_index bs (at + 1) ≡ kind_byte op.body
    pub known : has_byte bs (at + 1) 1 (last_kind f) ≡ true
    pub name : NameIs f (at + 2) op.name (body_bytes f op.body ++ rest)
    pub body : first_fault (body_fields f bs (kind_byte op.body) (at + body_place f)) ≡ None
    pub later : first_fault (later_fields f bs at) ≡ None
    pub after : drop (at + length (op_bytes f op)) bs ≡ rest

  pub op_is : (f : Format) (at : ℕ) (op : Op) (rest : List ℕ) → HasOp f op → drop at bs ≡ op_bytes f op ++ rest
      → OpIs f at op rest
  op_is f at op rest has e =
      let onward = body_bytes f op.body ++ rest in
      let whole : drop at bs ≡ format_byte f ∷ kind_byte op.body ∷ (name_bytes f op.name ++ onward) =
      e ∙ ap (λ l. format_byte f ∷ kind_byte op.body ∷ l) (append_assoc (name_bytes f op.name) (body_bytes f op.body) rest) in
      let first = byte_is at (format_byte f) (kind_byte op.body ∷ (name_bytes f op.name ++ onward)) (format_byte f) (format_byte f) (omega arith) (omega arith) whole in
      let second = byte_is (at + 1) (kind_byte op.body) (name_bytes f op.name ++ onward) 1 (last_kind f) (kind_least op.body) has.body.kind first.2 in
      let two : at + 2 ≡ at + 1 + 1 = omega arith in
      let third = name_is f (at + 2) op.name onward has.name (ap (λ p. drop p bs) two ∙ second.2) in
      let place : at + body_place f ≡ at + 2 + name_size f = omega arith in
      let fourth = body_is f (at + body_place f) op.body rest has.body (ap (λ p. drop p bs) place ∙ third.after) in record {
        format = first.1;
        exact = first.0;
        kind = second.1;
        known = second.0;
        name = third;
        body = fourth;
        later = later_there f at second.0 third.there (ap (λ k. first_fault (body_fields f bs k (at + body_place f))) second.1 ∙ fourth);
        after = behind at (length (op_bytes f op)) (op_bytes f op) rest refl e;
      }
