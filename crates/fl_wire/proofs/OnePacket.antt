-- Bytes spell one packet at most.
use Rattle.std.proofs.Common.{◌≡◌, ℕ, ◌+◌, ◌-◌, ◌*◌, ◌≤◌, ◌<◌, ◌^◌, List, [], ◌∷◌, ◌++◌, length, get_or, take, drop, refl, sym, ap, subst, ◌∙◌, append_assoc, arith}
use mathlib.Core.HLevel.{Σ_prop_path}
use Rattle.std.specs.Coded.{×_prop, le_prop}
use Rattle.std.specs.Int.{w16, w32, to_be_bytes, from_be_bytes}
use Rattle.std.specs.List.{flat_map, AllByRecursion}
use Rattle.std.specs.List.Sorted.{IsStrictlySortedBy, IsStrictlySortedBy-prop}
use Rattle.std.proofs.lemmas.Nat.{from_be_bytes-to_be_bytes_2, from_be_bytes-to_be_bytes_4}
use Rattle.fl_labels.specs.declared.pid.Pid.{Pid}
use Rattle.fl_labels.specs.Cap.{cap_name}
use Rattle.fl_labels.specs.Name.{name_cmp}
use Rattle.fl_labels.specs.NameOrder.{name_total, name_exact}
use Rattle.fl_labels.specs.Cap.{cap_cmp}
use Rattle.fl_labels.specs.CapOrder.{cap_total, cap_exact}
use Rattle.fl_labels.specs.PidOrder.{same_pid}
use Rattle.fl_labels.specs.Endpoint.{same_endpoint}
use Rattle.fl_labels.specs.SetBy.{SetBy, of_list, members, len, len-members, of_list-members}
use Rattle.fl_ops.specs.declared.op.Op.{Op}
use Rattle.fl_ops.specs.declared.format.Format.{Format}
use Rattle.fl_ops.specs.declared.format.Format.TheVariants.{One, Two}
use Rattle.fl_ops.specs.Format.{node_width, node_size}
use Rattle.fl_ops.specs.Fits.{HasName, HasCap, HasOp}
use Rattle.fl_ops.specs.Bytes.{name_bytes, cap_bytes, op_bytes}
use Rattle.fl_ops.specs.laws.OneSpelling.{name_front, cap_front, op_front, second_has}
use Rattle.fl_wire.proofs.Spelled.{node_parts}
use Rattle.fl_opset.specs.declared.span.Span.{Span}
use Rattle.fl_opset.specs.declared.intervals.Intervals.{Intervals}
use Rattle.fl_opset.specs.Rank.{name_rank, last_rank}
use Rattle.fl_opset.specs.laws.ByRank.{same_span, same_window}
use Rattle.fl_wire.specs.NameOrder.{by_name}
use Rattle.fl_message.specs.laws.SameData.{same_data}
use Rattle.fl_wire.specs.declared.batch.Batch.{Batch}
use Rattle.fl_message.specs.declared.message.Message.{Message}
use Rattle.fl_message.specs.declared.message.Data.{Data}
use Rattle.fl_wire.specs.declared.packet.Packet.{Packet}
use Rattle.fl_wire.specs.declared.packet.Packet.TheVariants as kinds
use Rattle.fl_wire.specs.PacketBytes.{pid_bytes, label_bytes, caps_bytes, payload_bytes, message_bytes, data_bytes, batch_bytes, span_bytes, intervals_bytes, packet_byte, packet_bytes}
use Rattle.fl_wire.specs.PacketFits.{HasPid, HasLabel, HasCaps, HasSpan, HasData, HasWindow, HasPacket}

two_back : (n : ℕ) → n < 2 ^ 16 → from_be_bytes w16 (to_be_bytes w16 n) ≡ n
two_back n h = from_be_bytes-to_be_bytes_2 n h

four_back : (n : ℕ) → n < 2 ^ 32 → from_be_bytes w32 (to_be_bytes w32 n) ≡ n
four_back n h = from_be_bytes-to_be_bytes_4 n h

-- two bytes of a number, before whatever follows
two_front : (m n : ℕ) (u v : List ℕ) → m < 2 ^ 16 → n < 2 ^ 16 → to_be_bytes w16 m ++ u ≡ to_be_bytes w16 n ++ v → (m ≡ n) × (u ≡ v)
two_front m n u v h k e = (sym (two_back m h) ∙ ap (λ l. from_be_bytes w16 (take 2 l)) e ∙ two_back n k, ap (drop 2) e)

four_front : (m n : ℕ) (u v : List ℕ) → m < 2 ^ 32 → n < 2 ^ 32 → to_be_bytes w32 m ++ u ≡ to_be_bytes w32 n ++ v → (m ≡ n) × (u ≡ v)
four_front m n u v h k e = (sym (four_back m h) ∙ ap (λ l. from_be_bytes w32 (take 4 l)) e ∙ four_back n k, ap (drop 4) e)

byte_front : (m n : ℕ) (u v : List ℕ) → m ∷ u ≡ n ∷ v → (m ≡ n) × (u ≡ v)
byte_front m n u v e = (ap (λ l. get_or l 0 0) e, ap (drop 1) e)

pid_front : (f : Format) (p q : Pid) (u v : List ℕ) → HasPid f p → HasPid f q → pid_bytes f p ++ u ≡ pid_bytes f q ++ v → (p ≡ q) × (u ≡ v)
pid_front f p q u v has other e =
    let w = node_width f in
    let whole = sym (append_assoc (to_be_bytes w p.node) (to_be_bytes w32 p.boot ++ to_be_bytes w32 p.serial) u) ∙ e ∙ append_assoc (to_be_bytes w q.node) (to_be_bytes w32 q.boot ++ to_be_bytes w32 q.serial) v in
    let one = node_parts f p.node (to_be_bytes w32 p.boot ++ (to_be_bytes w32 p.serial ++ u)) has in
    let two = node_parts f q.node (to_be_bytes w32 q.boot ++ (to_be_bytes w32 q.serial ++ v)) other in
    let node : p.node ≡ q.node = sym one.node ∙ ap (λ l. from_be_bytes w (take (node_size f) l)) whole ∙ two.node in
    let rest = sym one.after ∙ ap (drop (node_size f)) whole ∙ two.after in
    let second = four_front p.boot q.boot (to_be_bytes w32 p.serial ++ u) (to_be_bytes w32 q.serial ++ v) p.boot_in_range.1 q.boot_in_range.1 rest in
    let third = four_front p.serial q.serial u v p.serial_in_range.1 q.serial_in_range.1 second.1 in
    (same_pid p q node second.0 third.0, third.1)

-- as many items as others, one after another
module _ {K : Type 0} (Has : K → Type 0) (spell : K → List ℕ) (front : (x y : K) (u v : List ℕ) → Has x → Has y → spell x ++ u ≡ spell y ++ v → (x ≡ y) × (u ≡ v)) where
  items_front : (xs ys : List K) (u v : List ℕ) → AllByRecursion Has xs → AllByRecursion Has ys → length xs ≡ length ys → flat_map spell xs ++ u ≡ flat_map spell ys ++ v → (xs ≡ ys) × (u ≡ v)
  items_front [] [] u v has other n e = (refl, e)
  items_front [] (y ∷ ys) u v has other n e = absurd (omega arith)
  items_front (x ∷ xs) [] u v has other n e = absurd (omega arith)
  items_front (x ∷ xs) (y ∷ ys) u v has other n e =
      let first = front x y (flat_map spell xs ++ u) (flat_map spell ys ++ v) has.0 other.0
      (sym (append_assoc (spell x) (flat_map spell xs) u) ∙ e ∙ append_assoc (spell y) (flat_map spell ys) v) in
      let rest = items_front xs ys u v has.1 other.1 (omega arith) first.1 in
      (λ i. first.0 i ∷ rest.0 i, rest.1)

label_front : (f : Format) (s t : SetBy name_cmp) (u v : List ℕ) → HasLabel f s → HasLabel f t → len s ≤ 256 → len t ≤ 256 → label_bytes f s ++ u ≡ label_bytes f t ++ v → (s ≡ t) × (u ≡ v)
label_front f s t u v has other h k e =
    let first = two_front (len s) (len t) (flat_map (name_bytes f) (members s) ++ u) (flat_map (name_bytes f) (members t) ++ v) (omega (arith, h)) (omega (arith, k)) e in
    let rest = items_front (HasName f) (name_bytes f) (name_front f) (members s) (members t) u v has other (sym (len-members s) ∙ first.0 ∙ len-members t) first.1 in
    (sym (of_list-members name_total name_exact s) ∙ ap of_list rest.0 ∙ of_list-members name_total name_exact t, rest.1)

set_front : (f : Format) (s t : SetBy cap_cmp) (u v : List ℕ) → HasCaps f s → HasCaps f t → caps_bytes f s ++ u ≡ caps_bytes f t ++ v → (s ≡ t) × (u ≡ v)
set_front f s t u v has other e =
    let first = byte_front (len s) (len t) (flat_map (cap_bytes f) (members s) ++ u) (flat_map (cap_bytes f) (members t) ++ v) e in
    let rest = items_front (HasCap f) (cap_bytes f) (cap_front f) (members s) (members t) u v has other (sym (len-members s) ∙ first.0 ∙ len-members t) first.1 in
    (sym (of_list-members cap_total cap_exact s) ∙ ap of_list rest.0 ∙ of_list-members cap_total cap_exact t, rest.1)

same_message : (m n : Message) → m.caps ≡ n.caps → m.payload ≡ n.payload → m ≡ n
same_message m n p q =
    let parts : ◌≡◌ {A = (f : SetBy cap_cmp × List ℕ) × (len f.0 ≤ 64 × length f.1 ≤ 1024)}
    ((m.caps, m.payload), (m.few_caps, m.few_bytes)) ((n.caps, n.payload), (n.few_caps, n.few_bytes))
    = Σ_prop_path (λ f. ×_prop le_prop le_prop) (λ i. (p i, q i)) in
    λ i. record { caps = (parts i).0.0; payload = (parts i).0.1; few_caps = (parts i).1.0; few_bytes = (parts i).1.1 }

message_same : (f : Format) (m n : Message) → HasCaps f m.caps → HasCaps f n.caps → message_bytes f m ≡ message_bytes f n → m ≡ n
message_same f m n has other e =
    let first = set_front f m.caps n.caps (payload_bytes m.payload) (payload_bytes n.payload) has other e in
    same_message m n first.0 (ap (drop 2) first.1)

-- what follows a process, an endpoint, a process and an endpoint
after_ends : Format → Data → List ℕ
after_ends f d = label_bytes f d.secrecy ++ (label_bytes f d.integrity ++ message_bytes f d.message)

data_same : (f : Format) (a b : Data) → HasData f a → HasData f b → data_bytes f a ≡ data_bytes f b → a ≡ b
unfolding after_ends
data_same f a b has other e =
    let e1 = pid_front f a.sender b.sender (a.from.number ∷ (pid_bytes f a.receiver ++ a.to.number ∷ after_ends f a)) (b.from.number ∷ (pid_bytes f b.receiver ++ b.to.number ∷ after_ends f b)) has.sender other.sender e in
    let e2 = byte_front a.from.number b.from.number (pid_bytes f a.receiver ++ a.to.number ∷ after_ends f a) (pid_bytes f b.receiver ++ b.to.number ∷ after_ends f b) e1.1 in
    let e3 = pid_front f a.receiver b.receiver (a.to.number ∷ after_ends f a) (b.to.number ∷ after_ends f b) has.receiver other.receiver e2.1 in
    let e4 = byte_front a.to.number b.to.number (after_ends f a) (after_ends f b) e3.1 in
    let e5 = label_front f a.secrecy b.secrecy (label_bytes f a.integrity ++ message_bytes f a.message) (label_bytes f b.integrity ++ message_bytes f b.message) has.secrecy other.secrecy a.secrecy_fits b.secrecy_fits e4.1 in
    let e6 = label_front f a.integrity b.integrity (message_bytes f a.message) (message_bytes f b.message) has.integrity other.integrity a.integrity_fits b.integrity_fits e5.1 in
    same_data a b e1.0 (same_endpoint a.from b.from e2.0) e3.0 (same_endpoint a.to b.to e4.0) e5.0 e6.0 (message_same f a.message b.message has.caps other.caps e6.1)

same_batch : (a b : Batch) → a.ops ≡ b.ops → a ≡ b
same_batch a b p =
    let parts : ◌≡◌ {A = (ops : List Op) × ((0 < length ops) × (length ops ≤ 64) × IsStrictlySortedBy by_name ops)}
    (a.ops, (a.some, a.few, a.rising)) (b.ops, (b.some, b.few, b.rising))
    = Σ_prop_path (λ ops. hlevel (le_prop, IsStrictlySortedBy-prop by_name ops)) p in
    λ i. record { ops = (parts i).0; some = (parts i).1.0; few = (parts i).1.1; rising = (parts i).1.2 }

batch_same : (f : Format) (a b : Batch) → AllByRecursion (HasOp f) a.ops → AllByRecursion (HasOp f) b.ops → batch_bytes f a.ops ≡ batch_bytes f b.ops → a ≡ b
batch_same f a b has other e =
    let first = byte_front (length a.ops) (length b.ops) (flat_map (op_bytes f) a.ops) (flat_map (op_bytes f) b.ops) e in
    let front : (x y : Op) (u v : List ℕ) → HasOp f x → HasOp f y → op_bytes f x ++ u ≡ op_bytes f y ++ v → (x ≡ y) × (u ≡ v) =
    λ x y u v h k is. let r = op_front f f x y u v h k is in (r.1, r.2) in
    same_batch a b (items_front (HasOp f) (op_bytes f) front a.ops b.ops [] [] has other first.0 (ap (λ l. l ++ []) first.1)).0

span_front : (f : Format) (s t : Span) (u v : List ℕ) → HasSpan f s → HasSpan f t → span_bytes f s ++ u ≡ span_bytes f t ++ v → (s ≡ t) × (u ≡ v)
span_front f s t u v has other e =
    let whole = sym (append_assoc (name_bytes f s.first) (to_be_bytes w32 s.last) u) ∙ e ∙ append_assoc (name_bytes f t.first) (to_be_bytes w32 t.last) v in
    let first = name_front f s.first t.first (to_be_bytes w32 s.last ++ u) (to_be_bytes w32 t.last ++ v) has other whole in
    let second = four_front s.last t.last u v s.last_in_range t.last_in_range first.1 in
    let rank : last_rank s ≡ last_rank t = λ i. ((first.0 i).node - 1) * 4294967296 + second.0 i in
    (same_span s t (ap name_rank first.0) rank, second.1)

window_same : (f : Format) (a b : Intervals) → HasWindow f a → HasWindow f b → intervals_bytes f a ≡ intervals_bytes f b → a ≡ b
window_same f a b has other e =
    let e1 = name_front f a.from b.from (name_bytes f a.to ++ (to_be_bytes w16 (length a.spans) ++ flat_map (span_bytes f) a.spans)) (name_bytes f b.to ++ (to_be_bytes w16 (length b.spans) ++ flat_map (span_bytes f) b.spans)) has.from other.from e in
    let e2 = name_front f a.to b.to (to_be_bytes w16 (length a.spans) ++ flat_map (span_bytes f) a.spans) (to_be_bytes w16 (length b.spans) ++ flat_map (span_bytes f) b.spans) has.to other.to e1.1 in
    let e3 = two_front (length a.spans) (length b.spans) (flat_map (span_bytes f) a.spans) (flat_map (span_bytes f) b.spans) (omega (arith, a.few)) (omega (arith, b.few)) e2.1 in
    same_window a b e1.0 e2.0 (items_front (HasSpan f) (span_bytes f) (span_front f) a.spans b.spans [] [] has.spans other.spans e3.0 (ap (λ l. l ++ []) e3.1)).0

same_in : (f : Format) (a b : Packet) → HasPacket f a → HasPacket f b → packet_bytes f a ≡ packet_bytes f b → a ≡ b
same_in f (kinds.Full a) (kinds.Full b) has other e = ap kinds.Full (batch_same f a b has other (ap (drop 2) e))
same_in f (kinds.Have a) (kinds.Have b) has other e = ap kinds.Have (window_same f a b has other (ap (drop 2) e))
same_in f (kinds.Delta a) (kinds.Delta b) has other e = ap kinds.Delta (batch_same f a b has other (ap (drop 2) e))
same_in f (kinds.Data a) (kinds.Data b) has other e = ap kinds.Data (data_same f a b has other (ap (drop 2) e))
same_in f a b has other e = absurd (let kind = ap (λ l. get_or l 1 0) e in cc)

same_format : (f g : Format) (a b : Packet) → packet_bytes f a ≡ packet_bytes g b → f ≡ g
same_format f g a b e = of_byte f g (sym (head f a) ∙ ap (λ l. get_or l 0 0) e ∙ head g b)
  where
    head : (f : Format) (p : Packet) → get_or (packet_bytes f p) 0 0 ≡ packet_byte f
    head f (kinds.Full b) = refl
    head f (kinds.Have w) = refl
    head f (kinds.Delta b) = refl
    head f (kinds.Data d) = refl

    of_byte : (f g : Format) → packet_byte f ≡ packet_byte g → f ≡ g
    of_byte One One e = refl
    of_byte Two Two e = refl
    of_byte One Two e = absurd (omega (arith, e))
    of_byte Two One e = absurd (omega (arith, e))

pub one_packet : (f g : Format) (a b : Packet) → HasPacket f a → HasPacket g b → packet_bytes f a ≡ packet_bytes g b → (f ≡ g) × (a ≡ b)
one_packet f g a b has other e =
    let same = same_format f g a b e in
    (same, same_in f a b has (subst (λ h. HasPacket h b) (sym same) other) (e ∙ ap (λ h. packet_bytes h b) (sym same)))

-- the second format has all packets
all_of : {K : Type 0} {Has : K → Type 0} → ((x : K) → Has x) → (xs : List K) → AllByRecursion Has xs
all_of each [] = tt
all_of each (x ∷ xs) = (each x, all_of each xs)

pub second_has_packet : (p : Packet) → HasPacket Two p
second_has_packet (kinds.Full b) = all_of {Has = HasOp Two} second_has b.ops
second_has_packet (kinds.Have w) = record {
  from = w.from.node_in_range.1;
  to = w.to.node_in_range.1;
  spans = all_of {Has = HasSpan Two} (λ s. s.first.node_in_range.1) w.spans;
}
second_has_packet (kinds.Delta b) = all_of {Has = HasOp Two} second_has b.ops
second_has_packet (kinds.Data d) = record {
  sender = d.sender.node_in_range.1;
  receiver = d.receiver.node_in_range.1;
  secrecy = all_of {Has = HasName Two} (λ n. n.node_in_range.1) (members d.secrecy);
  integrity = all_of {Has = HasName Two} (λ n. n.node_in_range.1) (members d.integrity);
  caps = all_of {Has = HasCap Two} (λ c. (cap_name c).node_in_range.1) (members d.message.caps);
}
