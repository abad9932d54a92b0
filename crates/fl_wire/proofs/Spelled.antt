-- What stands at a place where the bytes are spelled so: numbers, nodes, tags and capabilities.
use Rattle.std.proofs.Common.{◌≡◌, ℕ, ◌+◌, ◌≤◌, ◌<◌, ◌^◌, ◌&&◌, nat_lt, true, List, [], ◌∷◌, ◌++◌, length, take, drop, refl, ap, ◌∙◌, arith}
use Rattle.std.specs.Int.{w16, w32, to_be_bytes, from_be_bytes}
use Rattle.std.proofs.lemmas.Nat.{from_be_bytes-to_be_bytes_2, from_be_bytes-to_be_bytes_4}
use Rattle.std.proofs.lemmas.Bool.{le-leb, lt-ltb}
use Rattle.fl_labels.specs.declared.name.Name.{Name}
use Rattle.fl_labels.specs.declared.cap.Cap.{Cap}
use Rattle.fl_ops.specs.declared.format.Format.{Format}
use Rattle.fl_ops.specs.declared.format.Format.TheVariants.{One, Two}
use Rattle.fl_ops.specs.Format.{node_width, node_size, node_limit, last_kind}
use Rattle.fl_ops.specs.Bytes.{name_bytes, name_size, cap_bytes, cap_size}
use Rattle.fl_ops.specs.Fits.{HasName, HasCap}
use Rattle.fl_ops.specs.Grammar.{has_name, node_at}
use Rattle.fl_ops.specs.laws.Spelled.{behind, within, name_is, cap_is}
use Rattle.fl_wire.specs.Fields.{short_at, long_at, has_node, has_short, has_long, has_cap, tag_key, cap_key}
use Rattle.fl_wire.specs.parts.Items.{name_key, key_of_cap}

-- no name takes more than 8 bytes
pub name_few : (f : Format) → name_size f ≤ 8
name_few One = omega arith
name_few Two = omega arith

-- nor is there a kind above 5
pub kind_few : (f : Format) → last_kind f ≤ 5
kind_few One = omega arith
kind_few Two = omega arith

-- the bytes of a node, before whatever follows them
pub record NodeParts (f : Format) (n : ℕ) (rest : List ℕ) : Type 0 where
  pub node : from_be_bytes (node_width f) (take (node_size f) (to_be_bytes (node_width f) n ++ rest)) ≡ n
  pub after : drop (node_size f) (to_be_bytes (node_width f) n ++ rest) ≡ rest
  pub size : length (to_be_bytes (node_width f) n) ≡ node_size f
  pub some : 0 < node_size f

pub node_parts : (f : Format) (n : ℕ) (rest : List ℕ) → n < node_limit f → NodeParts f n rest
node_parts One n rest h = record { node = from_be_bytes-to_be_bytes_2 n h; after = refl; size = refl; some = omega arith }
node_parts Two n rest h = record { node = from_be_bytes-to_be_bytes_4 n h; after = refl; size = refl; some = omega arith }

module _ (bs : List ℕ) where
  pub short_is : (at n : ℕ) (rest : List ℕ) (low high : ℕ) → n < 2 ^ 16 → low ≤ n → n ≤ high → drop at bs ≡ to_be_bytes w16 n ++ rest
      → (has_short bs at low high ≡ true) × (short_at bs at ≡ n) × (drop (at + 2) bs ≡ rest)
  short_is at n rest low high fits p q e =
      let here : short_at bs at ≡ n = ap (λ l. from_be_bytes w16 (take 2 l)) e ∙ from_be_bytes-to_be_bytes_2 n fits in (
        rw (le-leb (at + 2) (length bs) (within bs at 2 (to_be_bytes w16 n) rest refl (omega arith) e), here, le-leb low n p, le-leb n high q) refl,
        here,
        behind bs at 2 (to_be_bytes w16 n) rest refl e,
      )

  pub long_is : (at n : ℕ) (rest : List ℕ) → 0 < n → n < 2 ^ 32 → drop at bs ≡ to_be_bytes w32 n ++ rest
      → (has_long bs at ≡ true) × (long_at bs at ≡ n) × (drop (at + 4) bs ≡ rest)
  long_is at n rest some fits e =
      let here : long_at bs at ≡ n = ap (λ l. from_be_bytes w32 (take 4 l)) e ∙ from_be_bytes-to_be_bytes_4 n fits in (
        rw (le-leb (at + 4) (length bs) (within bs at 4 (to_be_bytes w32 n) rest refl (omega arith) e), here, lt-ltb 0 n some) refl,
        here,
        behind bs at 4 (to_be_bytes w32 n) rest refl e,
      )

  pub node_is : (f : Format) (at n : ℕ) (rest : List ℕ) → 0 < n → n < node_limit f → drop at bs ≡ to_be_bytes (node_width f) n ++ rest
      → (has_node f bs at ≡ true) × (drop (at + node_size f) bs ≡ rest)
  node_is f at n rest some fits e =
      let parts = node_parts f n rest fits in
      let here : node_at f bs at ≡ n = ap (λ l. from_be_bytes (node_width f) (take (node_size f) l)) e ∙ parts.node in
      let inside = le-leb (at + node_size f) (length bs) (within bs at (node_size f) (to_be_bytes (node_width f) n) rest parts.size parts.some e) in (
        λ i. inside i && (ap (nat_lt 0) here ∙ lt-ltb 0 n some) i,
        behind bs at (node_size f) (to_be_bytes (node_width f) n) rest parts.size e,
      )

  pub tag_is : (f : Format) (at : ℕ) (n : Name) (rest : List ℕ) → HasName f n → drop at bs ≡ name_bytes f n ++ rest
      → (has_name f bs at ≡ true) × (tag_key f bs at ≡ name_key n) × (drop (at + name_size f) bs ≡ rest)
  tag_is f at n rest has e =
      let is = name_is bs f at n rest has e in
      (is.there, (λ i. is.node i ∷ is.seq i ∷ []), is.after)

  pub whole_cap_is : (f : Format) (at : ℕ) (c : Cap) (rest : List ℕ) → HasCap f c → drop at bs ≡ cap_bytes f c ++ rest
      → (has_cap f bs at ≡ true) × (cap_key f bs at ≡ key_of_cap c) × (drop (at + cap_size f) bs ≡ rest)
  whole_cap_is f at c rest has e =
      let is = cap_is bs f at c rest has e in
      (rw (is.kind, is.name.there) refl, (λ i. is.name.node i ∷ is.name.seq i ∷ is.rank i ∷ []), is.after)
