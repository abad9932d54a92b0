-- What a packet spells has no fault.
use Rattle.std.proofs.Common.{◌≡◌, ℕ, leb, ◌-◌, suc, if◌then◌else◌, ◌+◌, ◌*◌, ◌≤◌, ◌<◌, Bool, true, ◌&&◌, List, [], ◌∷◌, ◌++◌, length, drop, slice_index, Option, Some, None, refl, sym, ap, ◌∙◌, arith, lit≤, length-drop, length-append, append_assoc, Ordering, Less, Equal, Greater}
use Rattle.std.specs.Int.{w16, w32, to_be_bytes}
use Rattle.std.specs.List.{flat_map, AllByRecursion}
use Rattle.std.specs.List.Sorted.{IsStrictlySortedBy}
use Rattle.std.specs.Cmp.Lexicographic.{slice_cmp}
use Rattle.std.specs.Ordering.{nat_cmp, is_lt, ordering_then}
use Rattle.std.proofs.lemmas.Bool.{le-leb}
use Rattle.fl_labels.specs.declared.name.Name.{Name}
use Rattle.fl_labels.specs.declared.cap.Cap.{Cap}
use Rattle.fl_labels.specs.declared.pid.Pid.{Pid}
use Rattle.fl_labels.specs.declared.endpoint.Endpoint.{Endpoint}
use Rattle.fl_labels.specs.Name.{name_cmp}
use Rattle.fl_labels.specs.Cap.{cap_name, cap_rank, cap_cmp}
use Rattle.fl_labels.specs.SetBy.{SetBy, members, len, len-members, members_rise}
use Rattle.fl_ops.specs.declared.op.Op.{Op}
use Rattle.fl_ops.specs.declared.op.Body.{Body}
use Rattle.fl_ops.specs.declared.op.Body.TheVariants.{MakeTag, MakeGroup, Put, MakeLogin, Open}
use Rattle.fl_ops.specs.declared.format.Format.{Format}
use Rattle.fl_ops.specs.declared.format.Format.TheVariants.{One, Two}
use Rattle.fl_ops.specs.Format.{node_width, node_size, last_kind}
use Rattle.fl_ops.specs.Bytes.{name_bytes, name_size, cap_bytes, cap_size, op_bytes, kind_byte, body_place}
use Rattle.fl_ops.specs.Fits.{HasName, HasCap, HasOp}
use Rattle.fl_ops.specs.laws.Spelled.{name_parts, there, behind, within, byte_is, op_is}
use Rattle.fl_ops.specs.Grammar.{first_fault, has_byte, has_name, body_fields}
use Rattle.fl_opset.specs.declared.span.Span.{Span}
use Rattle.fl_opset.specs.declared.intervals.Intervals.{Intervals}
use Rattle.fl_opset.specs.Rank.{name_rank, last_rank}
use Rattle.fl_opset.specs.Spans.{fit}
use Rattle.fl_opset.specs.laws.Fits.{fit_at}
use Rattle.fl_wire.specs.NameOrder.{by_name}
use Rattle.fl_wire.specs.parts.Ops.{IsNextOp}
use Rattle.fl_wire.specs.declared.batch.Batch.{Batch}
use Rattle.fl_message.specs.declared.message.Message.{Message}
use Rattle.fl_message.specs.declared.message.Data.{Data}
use Rattle.fl_wire.specs.declared.packet.Packet.{Packet}
use Rattle.fl_wire.specs.declared.packet.Packet.TheVariants as kinds
use Rattle.fl_wire.specs.parts.Items.{name_key, key_of_cap, key_before, is_above}
use Rattle.fl_wire.specs.Fields.{is_next, pid_size, short_at, has_cap, tag_key, cap_key, rising_fields}
use Rattle.fl_wire.specs.PacketBytes.{pid_bytes, label_bytes, caps_bytes, payload_bytes, message_bytes, data_bytes, batch_bytes, span_bytes, intervals_bytes, packet_byte, packet_bytes}
use Rattle.fl_wire.specs.PacketFits.{HasPid, HasLabel, HasCaps, HasSpan, HasData, HasWindow, HasPacket}
use Rattle.fl_wire.specs.PacketGrammar.{end_size, span_size, packet_format, end_fields, tag_fields, label_fields, after_label, each_cap, caps_fields, after_caps, payload_fields, message_fields, content_fields, data_fields, next_op, op_size, ops_fields, batch_fields, rank_at, last_at, spans_fields, window_fields, kind_fields, packet_fault}
use Rattle.fl_wire.proofs.Faults.{fault_rest}
use Rattle.fl_wire.proofs.SpanRead.{rank_read}
use Rattle.fl_wire.proofs.Spelled.{short_is, long_is, node_is, tag_is, whole_cap_is}

-- xs rise above what is before them
abbrev RisesFrom : {K : Type 0} → (K → K → Ordering) → Option K → List K → Type 0
RisesFrom R b [] = Unit {0}
RisesFrom R b (x ∷ xs) = (is_above R b x ≡ true) × RisesFrom R (Some x) xs

rises_from : {K : Type 0} (R : K → K → Ordering) (x : K) (xs : List K) → AllByRecursion (λ y. R x y ≡ Less) xs → IsStrictlySortedBy R xs → RisesFrom R (Some x) xs
unfolding IsStrictlySortedBy
rises_from R x [] h s = tt
rises_from R x (y ∷ ys) h s = (ap is_lt h.0, rises_from R y ys s.0 s.1)

rises_all : {K : Type 0} (R : K → K → Ordering) (xs : List K) → IsStrictlySortedBy R xs → RisesFrom R None xs
unfolding IsStrictlySortedBy
rises_all R [] s = tt
rises_all R (x ∷ xs) s = (refl, rises_from R x xs s.0 s.1)

module _ {K : Type 0} (R : K → K → Ordering) (Has : K → Type 0) (spell : K → List ℕ) (key_of : K → List ℕ) (there : ℕ → Bool) (key : ℕ → List ℕ) (size : ℕ) (bs : List ℕ)
    (is : (at : ℕ) (x : K) (rest : List ℕ) → Has x → drop at bs ≡ spell x ++ rest → (there at ≡ true) × (key at ≡ key_of x) × (drop (at + size) bs ≡ rest))
    (rising : (b : Option K) (x : K) → is_lt (slice_cmp nat_cmp (key_before key_of b) (key_of x)) ≡ is_above R b x) where
  items_are : (xs : List K) (at : ℕ) (b : Option K) (rest : List ℕ) → AllByRecursion Has xs → RisesFrom R b xs → drop at bs ≡ flat_map spell xs ++ rest
      → (first_fault (rising_fields there key size at (key_before key_of b) (length xs)) ≡ None) × (drop (at + size * length xs) bs ≡ rest)
  items_are [] at b rest has h e =
      let place : at + size * 0 ≡ at = omega arith in
      (refl, ap (λ n. drop n bs) place ∙ e)
  items_are (x ∷ xs) at b rest has h e =
      let one = is at x (flat_map spell xs ++ rest) has.0 (e ∙ append_assoc (spell x) (flat_map spell xs) rest) in
      let more = items_are xs (at + size) (Some x) rest has.1 h.1 one.2 in
      let next : is_next there key at (key_before key_of b) ≡ true =
      ap (λ t. t && is_lt (slice_cmp nat_cmp (key_before key_of b) (key at))) one.0 ∙ ap (λ k. is_lt (slice_cmp nat_cmp (key_before key_of b) k)) one.1 ∙ rising b x ∙ h.0 in
      let place : at + size * suc (length xs) ≡ at + size + size * length xs = omega arith in (
        ap (λ c. if c then first_fault (rising_fields there key size (at + size) (key at) (length xs)) else Some at) next
            ∙ ap (λ k. first_fault (rising_fields there key size (at + size) k (length xs))) one.1 ∙ more.0,
        ap (λ n. drop n bs) place ∙ more.1,
      )

then_level : (o : Ordering) → ordering_then o Equal ≡ o
then_level Less = refl
then_level Equal = refl
then_level Greater = refl

then_then : (o p q : Ordering) → ordering_then o (ordering_then p q) ≡ ordering_then (ordering_then o p) q
then_then Less p q = refl
then_then Equal p q = refl
then_then Greater p q = refl

pub name_rising : (b : Option Name) (x : Name) → is_lt (slice_cmp nat_cmp (key_before name_key b) (name_key x)) ≡ is_above name_cmp b x
name_rising None x = refl
name_rising (Some y) x = ap (λ o. is_lt (ordering_then (nat_cmp y.node x.node) o)) (then_level (nat_cmp y.seq x.seq))

pub cap_rising : (b : Option Cap) (x : Cap) → is_lt (slice_cmp nat_cmp (key_before key_of_cap b) (key_of_cap x)) ≡ is_above cap_cmp b x
cap_rising None x = refl
cap_rising (Some y) x =
    let node = nat_cmp (cap_name y).node (cap_name x).node in
    let seq = nat_cmp (cap_name y).seq (cap_name x).seq in
    let rank = nat_cmp (cap_rank y) (cap_rank x) in
    ap is_lt (ap (λ o. ordering_then node (ordering_then seq o)) (then_level rank) ∙ then_then node seq rank)

module _ (f : Format) (bs : List ℕ) where
  label_is : (at : ℕ) (s : SetBy name_cmp) (rest : List ℕ) → HasLabel f s → len s ≤ 256 → drop at bs ≡ label_bytes f s ++ rest
      → (first_fault (label_fields f bs at) ≡ None) × (drop (after_label f bs at) bs ≡ rest)
  label_is at s rest has few e =
      let first = short_is bs at (len s) (flat_map (name_bytes f) (members s) ++ rest) 0 256 (omega (arith, few)) (omega arith) few e in
      let items = items_are name_cmp (HasName f) (name_bytes f) name_key (has_name f bs) (tag_key f bs) (name_size f) bs (tag_is bs f) name_rising (members s) (at + 2) None rest has (rises_all name_cmp (members s) (members_rise s)) first.2 in
      let count : length (members s) ≡ short_at bs at = sym (len-members s) ∙ sym first.1 in
      let place : after_label f bs at ≡ at + 2 + name_size f * length (members s) = rw count (omega arith) in (
        ap (λ c. if c then first_fault (tag_fields f bs (at + 2) (short_at bs at)) else Some at) first.0 ∙ ap (λ n. first_fault (tag_fields f bs (at + 2) n)) (sym count) ∙ items.0,
        ap (λ n. drop n bs) place ∙ items.1,
      )

  caps_are : (at : ℕ) (s : SetBy cap_cmp) (rest : List ℕ) → HasCaps f s → len s ≤ 64 → drop at bs ≡ caps_bytes f s ++ rest
      → (first_fault (caps_fields f bs at) ≡ None) × (drop (after_caps f bs at) bs ≡ rest)
  caps_are at s rest has few e =
      let first = byte_is bs at (len s) (flat_map (cap_bytes f) (members s) ++ rest) 0 64 (omega arith) few e in
      let items = items_are cap_cmp (HasCap f) (cap_bytes f) key_of_cap (has_cap f bs) (cap_key f bs) (cap_size f) bs (whole_cap_is bs f) cap_rising (members s) (at + 1) None rest has (rises_all cap_cmp (members s) (members_rise s)) first.2 in
      let count : length (members s) ≡ slice_index bs at = sym (len-members s) ∙ sym first.1 in
      let place : after_caps f bs at ≡ at + 1 + cap_size f * length (members s) = rw count (omega arith) in (
        ap (λ c. if c then first_fault (each_cap f bs (at + 1) (slice_index bs at)) else Some at) first.0 ∙ ap (λ n. first_fault (each_cap f bs (at + 1) n)) (sym count) ∙ items.0,
        ap (λ n. drop n bs) place ∙ items.1,
      )

  payload_is : (at : ℕ) (p : List ℕ) → length p ≤ 1024 → drop at bs ≡ payload_bytes p → first_fault (payload_fields bs at) ≡ None
  payload_is at p few e =
      let first = short_is bs at (length p) p 0 1024 (omega (arith, few)) (omega arith) few e in
      let front : at + 2 ≤ length bs = within bs at 2 (to_be_bytes w16 (length p)) p refl (omega arith) e in
      let long : length (drop (at + 2) bs) ≡ length p = ap length first.2 in
      let end : at + 2 + short_at bs at ≡ length bs = omega (arith, front, long, length-drop (at + 2) bs, first.1) in
      rw (first.0, le-leb (at + 2 + short_at bs at) (length bs) (omega (arith, end)), le-leb (length bs) (at + 2 + short_at bs at) (omega (arith, end))) refl

  message_is : (at : ℕ) (m : Message) → HasCaps f m.caps → drop at bs ≡ message_bytes f m → first_fault (message_fields f bs at) ≡ None
  message_is at m has e =
      let caps = caps_are at m.caps (payload_bytes m.payload) has m.few_caps e in
      fault_rest (caps_fields f bs at) (payload_fields bs (after_caps f bs at)) caps.0 ∙ payload_is (after_caps f bs at) m.payload m.few_bytes caps.1

  content_is : (at : ℕ) (d : Data) → HasData f d → drop at bs ≡ label_bytes f d.secrecy ++ (label_bytes f d.integrity ++ message_bytes f d.message) → first_fault (content_fields f bs at) ≡ None
  content_is at d has e =
      let first = label_is at d.secrecy (label_bytes f d.integrity ++ message_bytes f d.message) has.secrecy d.secrecy_fits e in
      let middle = after_label f bs at in
      let second = label_is middle d.integrity (message_bytes f d.message) has.integrity d.integrity_fits first.1 in
      fault_rest (label_fields f bs at) (label_fields f bs middle ++ message_fields f bs (after_label f bs middle)) first.0
      ∙ fault_rest (label_fields f bs middle) (message_fields f bs (after_label f bs middle)) second.0
      ∙ message_is (after_label f bs middle) d.message has.caps second.1

  end_is : (at : ℕ) (p : Pid) (x : Endpoint) (rest : List ℕ) → HasPid f p → drop at bs ≡ pid_bytes f p ++ x.number ∷ rest
      → (first_fault (end_fields f bs at) ≡ None) × (drop (at + end_size f) bs ≡ rest)
  end_is at p x rest has e =
      let whole = e ∙ append_assoc (to_be_bytes (node_width f) p.node) (to_be_bytes w32 p.boot ++ to_be_bytes w32 p.serial) (x.number ∷ rest) in
      let a = node_is bs f at p.node (to_be_bytes w32 p.boot ++ (to_be_bytes w32 p.serial ++ x.number ∷ rest)) p.node_in_range.0 has whole in
      let b = long_is bs (at + node_size f) p.boot (to_be_bytes w32 p.serial ++ x.number ∷ rest) p.boot_in_range.0 p.boot_in_range.1 a.1 in
      let c = long_is bs (at + node_size f + 4) p.serial (x.number ∷ rest) p.serial_in_range.0 p.serial_in_range.1 b.2 in
      let last : at + pid_size f ≡ at + node_size f + 4 + 4 = omega arith in
      let d = byte_is bs (at + pid_size f) x.number rest 1 64 x.number_in_range.0 x.number_in_range.1 (ap (λ n. drop n bs) last ∙ c.2) in
      let end : at + end_size f ≡ at + pid_size f + 1 = omega arith in
      (rw (a.0, b.0, c.0, d.0) refl, ap (λ n. drop n bs) end ∙ d.2)

  data_is : (d : Data) → HasData f d → drop 2 bs ≡ data_bytes f d → first_fault (data_fields f bs 2) ≡ None
  data_is d has e =
      let content = label_bytes f d.secrecy ++ (label_bytes f d.integrity ++ message_bytes f d.message) in
      let two : 2 + 2 * end_size f ≡ 2 + end_size f + end_size f = omega arith in
      let first = end_is 2 d.sender d.from (pid_bytes f d.receiver ++ d.to.number ∷ content) has.sender e in
      let second = end_is (2 + end_size f) d.receiver d.to content has.receiver first.1 in
      fault_rest (end_fields f bs 2) (end_fields f bs (2 + end_size f) ++ content_fields f bs (2 + 2 * end_size f)) first.0
      ∙ fault_rest (end_fields f bs (2 + end_size f)) (content_fields f bs (2 + 2 * end_size f)) second.0
      ∙ content_is (2 + 2 * end_size f) d has (ap (λ n. drop n bs) two ∙ second.1)

-- the operations' names rise above what is before them
abbrev NamesRise : Option Name → List Op → Type 0
NamesRise b [] = Unit {0}
NamesRise b (x ∷ xs) = (is_above name_cmp b x.name ≡ true) × NamesRise (Some x.name) xs

names_from : (x : Op) (xs : List Op) → AllByRecursion (λ y. by_name x y ≡ Less) xs → IsStrictlySortedBy by_name xs → NamesRise (Some x.name) xs
unfolding IsStrictlySortedBy
names_from x [] h s = tt
names_from x (y ∷ ys) h s = (ap is_lt h.0, names_from y ys s.0 s.1)

names_all : (xs : List Op) → IsStrictlySortedBy by_name xs → NamesRise None xs
unfolding IsStrictlySortedBy
names_all [] s = tt
names_all (x ∷ xs) s = (refl, names_from x xs s.0 s.1)

size_of : (f : Format) (n : Name) (b : Body) → op_size f (kind_byte b) ≡ length (op_bytes f (record { name = n; body = b }))
size_of One n (MakeTag p) = refl
size_of One n MakeGroup = refl
size_of One n (Put g c) = refl
size_of One n (MakeLogin c d) = omega (arith, d.sized)
size_of One n (Open g) = refl
size_of Two n (MakeTag p) = refl
size_of Two n MakeGroup = refl
size_of Two n (Put g c) = refl
size_of Two n (MakeLogin c d) = omega (arith, d.sized)
size_of Two n (Open g) = refl

size_within : (f : Format) (b : Body) → op_size f (kind_byte b) ≤ 51
size_within One (MakeTag p) = omega arith
size_within One MakeGroup = omega arith
size_within One (Put g c) = omega arith
size_within One (MakeLogin c d) = omega arith
size_within One (Open g) = omega arith
size_within Two (MakeTag p) = omega arith
size_within Two MakeGroup = omega arith
size_within Two (Put g c) = omega arith
size_within Two (MakeLogin c d) = omega arith
size_within Two (Open g) = omega arith

module _ (f : Format) (bs : List ℕ) where
  pub next_is : (at : ℕ) (before : Option Name) (x : Op) (rest : List ℕ) → HasOp f x → is_above name_cmp before x.name ≡ true → drop at bs ≡ op_bytes f x ++ rest
      → IsNextOp f bs at before x (at + length (op_bytes f x))
  next_is at before x rest has above e =
      let is = op_is bs f at x rest has e in
      let keyed : tag_key f bs (at + 2) ≡ name_key x.name = λ i. is.name.node i ∷ is.name.seq i ∷ [] in
      let next : is_next (has_name f bs) (tag_key f bs) (at + 2) (key_before name_key before) ≡ true =
      ap (λ t. t && is_lt (slice_cmp nat_cmp (key_before name_key before) (tag_key f bs (at + 2)))) is.name.there
      ∙ ap (λ k. is_lt (slice_cmp nat_cmp (key_before name_key before) k)) keyed ∙ name_rising before x.name ∙ above in
      let body : first_fault (body_fields f bs (slice_index bs (at + 1)) (at + body_place f)) ≡ None =
      ap (λ k. first_fault (body_fields f bs k (at + body_place f))) is.kind ∙ is.body in
      let named : ℕ × Bool = (at + 2, is_next (has_name f bs) (tag_key f bs) (at + 2) (key_before name_key before)) in
      let fields = body_fields f bs (slice_index bs (at + 1)) (at + body_place f) in
      record {
        whole = there at ((at + 1, has_byte bs (at + 1) 1 (last_kind f)) ∷ named ∷ fields) is.exact (there (at + 1) (named ∷ fields) is.known (there (at + 2) fields next body));
        above = above;
        spelled = e ∙ ap (λ l. op_bytes f x ++ l) (sym is.after);
        keyed = keyed;
        ends = ap (λ k. at + op_size f k) is.kind ∙ ap (λ m. at + m) (size_of f x.name x.body);
        short = omega (arith, size_of f x.name x.body, size_within f x.body);
        has = has;
      }

  ops_are : (at : ℕ) (before : Option Name) (xs : List Op) → AllByRecursion (HasOp f) xs → NamesRise before xs → drop at bs ≡ flat_map (op_bytes f) xs → first_fault (ops_fields f bs at (key_before name_key before) (length xs)) ≡ None
  ops_are at before [] has h e =
      let long : length bs - at ≡ 0 = sym (length-drop at bs) ∙ ap length e in
      ap (λ b. if b then None else Some at) (le-leb (length bs) at (omega (arith, long)))
  ops_are at before (x ∷ xs) has h e =
      let n = next_is at before x (flat_map (op_bytes f) xs) has.0 h.0 e in
      let rest = ops_are (at + length (op_bytes f x)) (Some x.name) xs has.1 h.1 (behind bs at (length (op_bytes f x)) (op_bytes f x) (flat_map (op_bytes f) xs) refl e) in
      fault_rest (next_op f bs at (key_before name_key before)) (ops_fields f bs (at + op_size f (slice_index bs (at + 1))) (tag_key f bs (at + 2)) (length xs)) n.whole
      ∙ (λ i. first_fault (ops_fields f bs (n.ends i) (n.keyed i) (length xs))) ∙ rest

  batch_is : (at : ℕ) (b : Batch) → AllByRecursion (HasOp f) b.ops → drop at bs ≡ batch_bytes f b.ops → first_fault (batch_fields f bs at) ≡ None
  batch_is at b has e =
      let count = byte_is bs at (length b.ops) (flat_map (op_bytes f) b.ops) 1 64 b.some b.few e in
      ap (λ c. if c then first_fault (ops_fields f bs (at + 1) [] (slice_index bs at)) else Some at) count.0
      ∙ ap (λ n. first_fault (ops_fields f bs (at + 1) [] n)) count.1 ∙ ops_are (at + 1) None b.ops has (names_all b.ops b.rising) count.2

  spans_are : (at low high : ℕ) (ss : List Span) → AllByRecursion (HasSpan f) ss → fit low high ss ≡ true → drop at bs ≡ flat_map (span_bytes f) ss → first_fault (spans_fields f bs at low high (length ss)) ≡ None
  spans_are at low high [] has h e =
      let long : length bs - at ≡ 0 = sym (length-drop at bs) ∙ ap length e in
      ap (λ b. if b then None else Some at) (le-leb (length bs) at (omega (arith, long)))
  spans_are at low high (s ∷ ss) has h e =
      let t = fit_at low high s ss h in
      let tail = flat_map (span_bytes f) ss in
      let start : drop at bs ≡ name_bytes f s.first ++ (to_be_bytes w32 s.last ++ tail) = e ∙ append_assoc (name_bytes f s.first) (to_be_bytes w32 s.last) tail in
      let name = tag_is bs f at s.first (to_be_bytes w32 s.last ++ tail) has.0 start in
      let last = long_is bs (at + name_size f) s.last tail (omega (arith, s.rises, s.first.seq_in_range.0)) s.last_in_range name.2 in
      let begins : rank_at f bs at ≡ name_rank s.first = rank_read f bs at s.first name.1 in
      let ends : last_at f bs at ≡ last_rank s = λ i. (slice_index (name.1 i) 0 - 1) * 4294967296 + last.1 i in
      let first_there : (has_name f bs at && leb low (rank_at f bs at)) ≡ true = λ i. name.0 i && (ap (leb low) begins ∙ le-leb low (name_rank s.first) t.starts) i in
      let long : length (span_bytes f s) ≡ span_size f = omega (arith, length-append (name_bytes f s.first) (to_be_bytes w32 s.last), (name_parts f s.first [] has.0).size) in
      let some : 0 < span_size f = omega arith in
      let reach : at + span_size f ≤ length bs = within bs at (span_size f) (span_bytes f s) tail long some e in
      let rises : leb (rank_at f bs at) (last_at f bs at) ≡ true = le-leb (rank_at f bs at) (last_at f bs at) (omega (arith, begins, ends, s.rises)) in
      let below : leb (last_at f bs at) high ≡ true = le-leb (last_at f bs at) high (omega (arith, ends, t.ends)) in
      let last_there : (leb (at + span_size f) (length bs) && (leb (rank_at f bs at) (last_at f bs at) && leb (last_at f bs at) high)) ≡ true = λ i. le-leb (at + span_size f) (length bs) reach i && (rises i && below i) in
      let place : at + span_size f ≡ at + name_size f + 4 = omega arith in
      let rest = spans_are (at + span_size f) (last_rank s + 2) high ss has.1 t.rest (ap (λ n. drop n bs) place ∙ last.2) in
      (λ i. if first_there i then (if last_there i then first_fault (spans_fields f bs (at + span_size f) (ends i + 2) high (length ss)) else Some (at + name_size f)) else Some at) ∙ rest

  window_is : (at : ℕ) (w : Intervals) → HasWindow f w → drop at bs ≡ intervals_bytes f w → first_fault (window_fields f bs at) ≡ None
  window_is at w has e =
      let after = to_be_bytes w16 (length w.spans) ++ flat_map (span_bytes f) w.spans in
      let from = tag_is bs f at w.from (name_bytes f w.to ++ after) has.from e in
      let to = tag_is bs f (at + name_size f) w.to after has.to from.2 in
      let second : at + 2 * name_size f ≡ at + name_size f + name_size f = omega arith in
      let count = short_is bs (at + 2 * name_size f) (length w.spans) (flat_map (span_bytes f) w.spans) 0 512 (omega (arith, w.few)) (omega arith) w.few (ap (λ n. drop n bs) second ∙ to.2) in
      let third : at + (2 * name_size f + 2) ≡ at + 2 * name_size f + 2 = omega arith in
      let low : rank_at f bs at ≡ name_rank w.from = rank_read f bs at w.from from.1 in
      let high : rank_at f bs (at + name_size f) ≡ name_rank w.to = rank_read f bs (at + name_size f) w.to to.1 in
      let ordered : (has_name f bs (at + name_size f) && leb (rank_at f bs at) (rank_at f bs (at + name_size f))) ≡ true = λ i. to.0 i && le-leb (rank_at f bs at) (rank_at f bs (at + name_size f)) (omega (arith, low, high, w.ordered)) i in
      let rest = spans_are (at + (2 * name_size f + 2)) (name_rank w.from) (name_rank w.to) w.spans has.spans w.fitting (ap (λ n. drop n bs) third ∙ count.2) in
      (λ i. if from.0 i then (if ordered i then (if count.0 i then first_fault (spans_fields f bs (at + (2 * name_size f + 2)) (low i) (high i) (count.1 i)) else Some (at + 2 * name_size f)) else Some (at + name_size f)) else Some at) ∙ rest

packet_said : (f : Format) → packet_format (packet_byte f) ≡ f
packet_said One = refl
packet_said Two = refl

packet_range : (f : Format) → (241 ≤ packet_byte f) × (packet_byte f ≤ 242)
packet_range One = (lit≤ tt, lit≤ tt)
packet_range Two = (lit≤ tt, lit≤ tt)

-- after the format and the kind
opened : (f : Format) (bs : List ℕ) (kind : ℕ) (rest : List ℕ) → 1 ≤ kind → kind ≤ 4 → bs ≡ packet_byte f ∷ kind ∷ rest → first_fault (kind_fields f bs kind) ≡ None → packet_fault bs ≡ None
opened f bs kind rest low high e h =
    let range = packet_range f in
    let format = byte_is bs 0 (packet_byte f) (kind ∷ rest) 241 242 range.0 range.1 e in
    let said : packet_format (slice_index bs 0) ≡ f = ap packet_format format.1 ∙ packet_said f in
    let kinds = byte_is bs 1 kind rest 1 4 low high (ap (drop 1) e) in
    (λ i. if format.0 i then (if kinds.0 i then first_fault (kind_fields (said i) bs (kinds.1 i)) else Some 1) else Some 0) ∙ h

pub no_fault : (f : Format) (p : Packet) → HasPacket f p → packet_fault (packet_bytes f p) ≡ None
no_fault f (kinds.Full b) has = opened f (packet_bytes f (kinds.Full b)) 1 (batch_bytes f b.ops) (lit≤ tt) (lit≤ tt) refl (batch_is f (packet_bytes f (kinds.Full b)) 2 b has refl)
no_fault f (kinds.Have w) has = opened f (packet_bytes f (kinds.Have w)) 2 (intervals_bytes f w) (lit≤ tt) (lit≤ tt) refl (window_is f (packet_bytes f (kinds.Have w)) 2 w has refl)
no_fault f (kinds.Delta b) has = opened f (packet_bytes f (kinds.Delta b)) 3 (batch_bytes f b.ops) (lit≤ tt) (lit≤ tt) refl (batch_is f (packet_bytes f (kinds.Delta b)) 2 b has refl)
no_fault f (kinds.Data d) has = opened f (packet_bytes f (kinds.Data d)) 4 (data_bytes f d) (lit≤ tt) (lit≤ tt) refl (data_is f (packet_bytes f (kinds.Data d)) d has refl)
