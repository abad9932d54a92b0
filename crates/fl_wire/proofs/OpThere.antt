-- The operation that stands at a place whose fields are there.
use Rattle.std.proofs.Common.{◌≡◌, ℕ, zero, suc, ◌+◌, ◌≤◌, List, [], ◌∷◌, ◌++◌, length, take, drop, slice_index, None, refl, ap, ◌∙◌, arith, length-drop}
use Rattle.std.specs.Cmp.Lexicographic.{slice_cmp}
use Rattle.std.specs.Ordering.{nat_cmp, is_lt}
use Rattle.std.proofs.lemmas.Bool.{and_parts, leb-true}
use Rattle.std.proofs.lemmas.List.{length-take-le}
use Rattle.fl_labels.specs.declared.name.Name.{Name}
use Rattle.fl_ops.specs.declared.digest.Digest.{Digest}
use Rattle.fl_ops.specs.declared.format.Format.{Format}
use Rattle.fl_ops.specs.declared.op.Op.{Op}
use Rattle.fl_ops.specs.declared.op.Body.TheVariants.{MakeTag, MakeGroup, Put, MakeLogin, Open}
use Rattle.fl_ops.specs.declared.op.Policy.{Policy}
use Rattle.fl_ops.specs.declared.op.Policy.TheVariants.{Export, Read, Integrity}
use Rattle.fl_ops.specs.Bytes.{name_size, cap_size, policy_byte, body_place}
use Rattle.fl_ops.specs.Format.{format_byte, node_size, last_kind}
use Rattle.fl_ops.specs.Grammar.{first_fault, node_at, has_name, body_fields}
use Rattle.fl_wire.specs.Fields.{long_at, tag_key}
use Rattle.fl_wire.specs.PacketGrammar.{next_op}
use Rattle.fl_wire.specs.PacketSpelled.{AreBytes}
use Rattle.fl_wire.specs.parts.Items.{name_key, key_before}
use Rattle.fl_wire.specs.parts.Ops.{AddsBody, AddsNextOp, AreNumbers, last_name}
use Rattle.fl_wire.proofs.Added.{adds, tag_spelled, put_spelled, login_spelled, open_spelled, next_added}
use Rattle.fl_wire.proofs.Spelled.{kind_few}
use Rattle.fl_wire.proofs.There.{AreThere, all_there, byte_there, limit_within, numbers_there, name_there, cap_there}

policy_of : (number : ℕ) → 1 ≤ number → number ≤ 3 → (p : Policy) × (policy_byte p ≡ number)
policy_of zero low high = absurd (omega arith)
policy_of (suc zero) low high = (Export, refl)
policy_of (suc (suc zero)) low high = (Read, refl)
policy_of (suc (suc (suc zero))) low high = (Integrity, refl)
policy_of (suc (suc (suc (suc more)))) low high = absurd (omega arith)

module _ (bs : List ℕ) (fits : AreBytes bs) (f : Format) where
  -- what is added, and where it ends
  abbrev BodyThere : ℕ → Name → List Op → ℕ → Type 0
  BodyThere at n old kind = (new : List Op) × (end : ℕ) × AddsBody f bs at n.node n.seq kind old new end

  tag_body : (at : ℕ) (n : Name) (old : List Op) → 1 ≤ last_kind f → AreThere (body_fields f bs 1 at) → BodyThere at n old 1
  tag_body at n old known h =
      let byte = byte_there bs at 1 3 h.0 in
      let p = policy_of (slice_index bs at) byte.0 byte.1 in
      let op : Op = record { name = n; body = MakeTag p.0 } in
      (old ++ op ∷ [], at + 1, adds op refl refl refl refl (record { kind = known; names = tt }) (tag_spelled f bs at p.0 (slice_index bs at) byte.2 p.1) refl)

  group_body : (at : ℕ) (n : Name) (old : List Op) → 2 ≤ last_kind f → BodyThere at n old 2
  group_body at n old known =
      let op : Op = record { name = n; body = MakeGroup } in
      (old ++ op ∷ [], at, adds op refl refl refl refl (record { kind = known; names = tt }) refl (omega arith))

  put_body : (at : ℕ) (n : Name) (old : List Op) → 3 ≤ last_kind f → AreThere (body_fields f bs 3 at) → BodyThere at n old 3
  put_body at n old known h =
      let group = name_there bs fits f at h.0 in
      let c = cap_there bs fits f (at + name_size f) h.1 in
      let op : Op = record { name = n; body = Put group.name c.cap } in
      let spelled = put_spelled f bs at group.name c.cap (name_size f) (cap_size f) refl refl group.spelled c.spelled in
      (old ++ op ∷ [], at + name_size f + cap_size f, adds op refl refl refl refl (record { kind = known; names = (group.has, c.has) }) spelled.0 spelled.1)

  login_body : (at : ℕ) (n : Name) (old : List Op) → 4 ≤ last_kind f → AreThere (body_fields f bs 4 at) → BodyThere at n old 4
  login_body at n old known h =
      let c = cap_there bs fits f at (h.0, (h.1.0, tt)) in
      let inside : at + cap_size f + 32 ≤ length bs = leb-true (at + cap_size f + 32) (length bs) h.1.1.0 in
      let digest : Digest = record {
        bytes = take 32 (drop (at + cap_size f) bs);
        sized = length-take-le 32 (drop (at + cap_size f) bs) (omega (arith, inside, length-drop (at + cap_size f) bs));
      } in
      let op : Op = record { name = n; body = MakeLogin c.cap digest } in
      let spelled = login_spelled f bs at c.cap digest (cap_size f) refl c.spelled refl in
      (old ++ op ∷ [], at + cap_size f + 32, adds op refl refl refl refl (record { kind = known; names = c.has }) spelled.0 spelled.1)

  open_body : (at : ℕ) (n : Name) (old : List Op) → 5 ≤ last_kind f → AreThere (body_fields f bs 5 at) → BodyThere at n old 5
  open_body at n old known h =
      let group = name_there bs fits f at h.0 in
      let op : Op = record { name = n; body = Open group.name } in
      let spelled = open_spelled f bs at group.name (name_size f) refl group.spelled in
      (old ++ op ∷ [], at + name_size f, adds op refl refl refl refl (record { kind = known; names = group.has }) spelled.0 spelled.1)

  body_there : (at : ℕ) (n : Name) (old : List Op) (kind : ℕ) → 1 ≤ kind → kind ≤ last_kind f → AreThere (body_fields f bs kind at) → BodyThere at n old kind
  body_there at n old zero low known h = absurd (omega arith)
  body_there at n old (suc zero) low known h = tag_body at n old known h
  body_there at n old (suc (suc zero)) low known h = group_body at n old known
  body_there at n old (suc (suc (suc zero))) low known h = put_body at n old known h
  body_there at n old (suc (suc (suc (suc zero)))) low known h = login_body at n old known h
  body_there at n old (suc (suc (suc (suc (suc zero))))) low known h = open_body at n old known h
  body_there at n old (suc (suc (suc (suc (suc (suc more)))))) low known h = absurd (omega (arith, known, kind_few f))

  pub op_there : (at : ℕ) (old : List Op) → first_fault (next_op f bs at (key_before name_key (last_name old))) ≡ None
      → (new : List Op) × (end : ℕ) × AddsNextOp f bs at old new end
  op_there at old h =
      let before = key_before name_key (last_name old) in
      let p = all_there (next_op f bs at before) h in
      let kind = slice_index bs (at + 1) in
      let format = byte_there bs at (format_byte f) (format_byte f) p.0 in
      let second = byte_there bs (at + 1) 1 (last_kind f) p.1.0 in
      let next = and_parts (has_name f bs (at + 2)) (is_lt (slice_cmp nat_cmp before (tag_key f bs (at + 2)))) p.1.1.0 in
      let n = numbers_there bs fits f (at + 2) next.0 in
      let name : Name = record {
        node = node_at f bs (at + 2);
        seq = long_at bs (at + 2 + node_size f);
        node_in_range = (n.some_node, omega (arith, n.few, limit_within f));
        seq_in_range = (n.some_seq, n.few_seq);
      } in
      let numbers : AreNumbers f bs (at + 2) before name.node name.seq = record {
        next = p.1.1.0;
        above = next.1;
        some_node = n.some_node;
        fits = n.few;
        some_seq = n.some_seq;
        spelled = n.spelled;
      } in
      let body = body_there (at + body_place f) name old kind second.0 second.1 p.1.1.1 in
      let same : slice_index bs at ≡ format_byte f = omega (arith, format.0, format.1) in
      (body.0, body.1, next_added f bs at old body.0 kind name.node name.seq body.1 (format.2 ∙ ap (λ b. b ∷ drop (at + 1) bs) same) second.2 second.1 numbers body.2)
