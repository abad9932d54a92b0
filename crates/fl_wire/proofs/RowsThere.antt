-- What stands in rows whose fields are there: tags, capabilities, operations and spans.
use Rattle.std.proofs.Common.{◌≡◌, ℕ, zero, suc, ◌+◌, ◌-◌, ◌*◌, ◌≤◌, Bool, true, ◌&&◌, leb, List, [], ◌∷◌, ◌++◌, length, drop, slice_index, Option, Some, None, refl, sym, ap, subst, ◌∙◌, arith, append_assoc}
use Rattle.std.specs.Cmp.{IsTotalOrder}
use Rattle.std.specs.Int.{w32, to_be_bytes}
use Rattle.std.specs.declared.cmp.Ordering.{Ordering}
use Rattle.std.proofs.lemmas.Bool.{and_parts, leb-true}
use Rattle.fl_labels.specs.CapOrder.{cap_total}
use Rattle.fl_labels.specs.NameOrder.{name_total}
use Rattle.fl_labels.specs.Cap.{cap_cmp}
use Rattle.fl_labels.specs.Name.{name_cmp}
use Rattle.fl_labels.specs.SetBy.{SetBy, len, of_list}
use Rattle.fl_ops.specs.declared.format.Format.{Format}
use Rattle.fl_ops.specs.declared.op.Op.{Op}
use Rattle.fl_ops.specs.Bytes.{name_bytes, name_size, cap_bytes, cap_size}
use Rattle.fl_ops.specs.Fits.{HasName, HasCap}
use Rattle.fl_ops.specs.Grammar.{first_fault, has_byte, has_name, node_at}
use Rattle.fl_opset.specs.declared.span.Span.{Span}
use Rattle.fl_opset.specs.Rank.{name_rank, last_rank}
use Rattle.fl_wire.specs.Fields.{is_next, short_at, long_at, has_short, has_cap, tag_key, cap_key, rising_fields}
use Rattle.fl_wire.specs.PacketBytes.{label_bytes, caps_bytes}
use Rattle.fl_wire.specs.PacketFits.{HasLabel, HasCaps}
use Rattle.fl_wire.specs.PacketGrammar.{tag_fields, label_fields, after_label, each_cap, caps_fields, after_caps, next_op, op_size, ops_fields, rank_at, last_at, span_size, span_fields, spans_fields}
use Rattle.fl_wire.specs.PacketSpelled.{AreBytes}
use Rattle.fl_wire.specs.parts.Items.{name_key, key_of_cap, key_before, IsNext, AreRead}
use Rattle.fl_wire.specs.parts.Ops.{AreOps, last_name}
use Rattle.fl_wire.specs.parts.SpansRead.{IsSpanAt, AreSpansAt}
use Rattle.fl_wire.proofs.OpsRead.{OpsTo, last_more, ops_start, ops_added, ops_all}
use Rattle.fl_wire.proofs.Sets.{ReadTo, read_none, read_more, read_all, label_found, caps_found}
use Rattle.fl_wire.proofs.SpanRead.{rank_read}
use Rattle.fl_wire.proofs.SpansRead.{SpansTo, spans_none, spans_more, spans_all}
use Rattle.fl_wire.proofs.There.{all_there, whole_parts, whole_next, byte_there, four_there, short_there, name_there, tag_next, cap_next}
use Rattle.fl_wire.proofs.OpThere.{op_there}

module _ {K : Type 0} {R : K → K → Ordering} (total : IsTotalOrder R) (Has : K → Type 0) (spell : K → List ℕ) (key_of : K → List ℕ) (there : ℕ → Bool) (key : ℕ → List ℕ) (size : ℕ) (bs : List ℕ)
    (next : (at : ℕ) (before : Option K) → is_next there key at (key_before key_of before) ≡ true → (x : K) × IsNext R Has spell key_of there key size bs at before x) (at count : ℕ) where
  rest_there : (left place : ℕ) (xs : List K) (before : Option K) → ReadTo R Has spell key_of there key size bs at count place left xs before → place + size * left ≡ at + size * count
      → first_fault (rising_fields there key size place (key_before key_of before) left) ≡ None → (ys : List K) × AreRead R Has spell (rising_fields there key size at [] count) size bs at count ys
  rest_there zero place xs before r end h = (xs, read_all place 0 xs before r refl (omega (arith, end)))
  rest_there (suc left) place xs before r end h =
      let p = whole_next place (is_next there key place (key_before key_of before)) (rising_fields there key size (place + size) (key place) left) h in
      let x = next place before p.0 in
      let more = read_more total place (suc left) xs (xs ++ x.0 ∷ []) before x.0 (place + size) left r x.1 refl refl refl in
      rest_there left (place + size) (xs ++ x.0 ∷ []) (Some x.0) more (omega (arith, end))
      (subst (λ k. first_fault (rising_fields there key size (place + size) k left) ≡ None) x.1.keyed p.1)

  items_there : first_fault (rising_fields there key size at [] count) ≡ None → (ys : List K) × AreRead R Has spell (rising_fields there key size at [] count) size bs at count ys
  items_there h = rest_there count at [] None (read_none at count [] refl refl refl) refl h

module _ (bs : List ℕ) (fits : AreBytes bs) (f : Format) where
  pub record LabelThere (at : ℕ) : Type 0 where
    pub label : SetBy name_cmp
    pub has : HasLabel f label
    pub few : len label ≤ 256
    pub spelled : drop at bs ≡ label_bytes f label ++ drop (after_label f bs at) bs

  pub label_there : (at : ℕ) → first_fault (label_fields f bs at) ≡ None → LabelThere at
  label_there at h =
      let n = short_at bs at in
      let p = whole_next at (has_short bs at 0 256) (tag_fields f bs (at + 2) n) h in
      let count = short_there bs fits at 0 256 p.0 in
      let tags = items_there name_total (HasName f) (name_bytes f) name_key (has_name f bs) (tag_key f bs) (name_size f) bs (tag_next bs fits f) (at + 2) n p.1 in
      let found = label_found f bs at n n tags.0 (of_list tags.0) p.0 refl count.1 refl count.2 tags.1 refl in
      record { label = of_list tags.0; has = found.1; few = found.3; spelled = found.4 }

  pub record CapsThere (at : ℕ) : Type 0 where
    pub caps : SetBy cap_cmp
    pub has : HasCaps f caps
    pub few : len caps ≤ 64
    pub spelled : drop at bs ≡ caps_bytes f caps ++ drop (after_caps f bs at) bs

  pub caps_there : (at : ℕ) → first_fault (caps_fields f bs at) ≡ None → CapsThere at
  caps_there at h =
      let n = slice_index bs at in
      let p = whole_next at (has_byte bs at 0 64) (each_cap f bs (at + 1) n) h in
      let count = byte_there bs at 0 64 p.0 in
      let caps = items_there cap_total (HasCap f) (cap_bytes f) key_of_cap (has_cap f bs) (cap_key f bs) (cap_size f) bs (cap_next bs fits f) (at + 1) n p.1 in
      let found = caps_found f bs at n n caps.0 (of_list caps.0) p.0 refl count.1 refl count.2 caps.1 refl in
      record { caps = of_list caps.0; has = found.1; few = found.3; spelled = found.4 }

  ops_rest : (at count left place : ℕ) (xs : List Op) → OpsTo f bs at count place left xs (last_name xs)
      → first_fault (ops_fields f bs place (key_before name_key (last_name xs)) left) ≡ None → (ys : List Op) × AreOps f bs at count ys
  ops_rest at count zero place xs r h =
      (xs, ops_all place 0 xs (last_name xs) r refl (leb-true (length bs) place (all_there ((place, leb (length bs) place) ∷ []) h).0))
  ops_rest at count (suc left) place xs r h =
      let before = key_before name_key (last_name xs) in
      let p = whole_parts (next_op f bs place before) (ops_fields f bs (place + op_size f (slice_index bs (place + 1))) (tag_key f bs (place + 2)) left) h in
      let more = op_there bs fits f place xs p.0 in
      let added = more.2 in
      let last : tag_key f bs (place + 2) ≡ key_before name_key (last_name more.0) =
      added.next.keyed ∙ ap (key_before name_key) (sym (ap last_name added.added ∙ last_more xs added.op)) in
      let rest : first_fault (ops_fields f bs (place + op_size f (slice_index bs (place + 1))) (tag_key f bs (place + 2)) left)
      ≡ first_fault (ops_fields f bs more.1 (key_before name_key (last_name more.0)) left)
      = λ i. first_fault (ops_fields f bs (added.next.ends i) (last i) left) in
      ops_rest at count left more.1 more.0 (ops_added place (suc left) xs more.0 more.1 left r added refl) (sym rest ∙ p.1)

  pub ops_there : (at count : ℕ) → first_fault (ops_fields f bs at [] count) ≡ None → (ys : List Op) × AreOps f bs at count ys
  ops_there at count h = ops_rest at count count at [] (ops_start count [] refl refl) h

  span_there : (at low high : ℕ) → first_fault (span_fields f bs at low high) ≡ None → (s : Span) × IsSpanAt f bs at low high s
  span_there at low high h =
      let rank = rank_at f bs at in
      let last = last_at f bs at in
      let seq = long_at bs (at + name_size f) in
      let p = all_there (span_fields f bs at low high) h in
      let first = and_parts (has_name f bs at) (leb low rank) p.0 in
      let second = and_parts (leb (at + span_size f) (length bs)) (leb rank last && leb last high) p.1.0 in
      let third = and_parts (leb rank last) (leb last high) second.1 in
      let n = name_there bs fits f at first.0 in
      let four = four_there bs fits (at + name_size f) (omega (arith, leb-true (at + span_size f) (length bs) second.0)) in
      let node : node_at f bs at ≡ n.name.node = ap (λ l. slice_index l 0) n.keyed in
      let starts : rank ≡ name_rank n.name = rank_read f bs at n.name n.keyed in
      let ends : last ≡ (n.name.node - 1) * 4294967296 + seq = ap (λ m. (m - 1) * 4294967296 + seq) node in
      let s : Span = record {
        first = n.name;
        last = seq;
        rises = omega (arith, starts, ends, leb-true rank last third.0);
        last_in_range = four.0;
      } in
      let end : at + name_size f + 4 ≡ at + span_size f = omega arith in (
        s,
        record {
          whole = h;
          has = n.has;
          starts = omega (arith, starts, leb-true low rank first.1);
          ends = omega (arith, ends, leb-true last high third.1);
          last = ends;
          spelled = n.spelled ∙ ap (λ l. name_bytes f n.name ++ l) (four.1 ∙ ap (λ m. to_be_bytes w32 seq ++ drop m bs) end)
              ∙ sym (append_assoc (name_bytes f n.name) (to_be_bytes w32 seq) (drop (at + span_size f) bs));
        },
      )

  spans_rest : (at from high count left place low : ℕ) (xs : List Span) → SpansTo f bs at from high count place low left xs
      → first_fault (spans_fields f bs place low high left) ≡ None → (ss : List Span) × AreSpansAt f bs at from high count ss
  spans_rest at from high count zero place low xs r h =
      (xs, spans_all place low 0 xs r refl (leb-true (length bs) place (all_there ((place, leb (length bs) place) ∷ []) h).0))
  spans_rest at from high count (suc left) place low xs r h =
      let p = whole_parts (span_fields f bs place low high) (spans_fields f bs (place + span_size f) (last_at f bs place + 2) high left) h in
      let s = span_there place low high p.0 in
      let more = spans_more place low (suc left) xs (xs ++ s.0 ∷ []) s.0 (place + span_size f) (last_rank s.0) left r s.1 refl refl refl refl in
      spans_rest at from high count left (place + span_size f) (last_rank s.0 + 2) (xs ++ s.0 ∷ []) more
      (subst (λ m. first_fault (spans_fields f bs (place + span_size f) (m + 2) high left) ≡ None) s.1.last p.1)

  pub spans_there : (at from high count : ℕ) → first_fault (spans_fields f bs at from high count) ≡ None → (ss : List Span) × AreSpansAt f bs at from high count ss
  spans_there at from high count h = spans_rest at from high count count at from [] (spans_none at count [] refl refl refl) h
