-- Bytes without a fault spell a packet.
use Rattle.std.proofs.Common.{◌≡◌, ℕ, zero, suc, ◌+◌, ◌*◌, ◌≤◌, leb, List, [], ◌∷◌, ◌++◌, length, drop, slice_index, None, refl, sym, ap, subst, ◌∙◌, arith, length-drop}
use Rattle.std.specs.Int.{w16, to_be_bytes}
use Rattle.std.specs.List.{AllByRecursion}
use Rattle.std.proofs.lemmas.Bool.{and_parts, leb-true}
use Rattle.fl_message.specs.declared.message.Data.{Data}
use Rattle.fl_message.specs.declared.message.Message.{Message}
use Rattle.fl_ops.specs.declared.format.Format.{Format}
use Rattle.fl_ops.specs.Bytes.{name_size}
use Rattle.fl_ops.specs.Fits.{HasOp}
use Rattle.fl_ops.specs.Grammar.{first_fault, has_byte, has_name}
use Rattle.fl_opset.specs.declared.intervals.Intervals.{Intervals}
use Rattle.fl_opset.specs.Rank.{name_rank}
use Rattle.fl_wire.specs.declared.batch.Batch.{Batch}
use Rattle.fl_wire.specs.declared.packet.Packet.{Packet}
use Rattle.fl_wire.specs.declared.packet.Packet.TheVariants as kinds
use Rattle.fl_wire.specs.Fields.{short_at}
use Rattle.fl_wire.specs.PacketBytes.{label_bytes, payload_bytes, message_bytes, data_bytes, batch_bytes, intervals_bytes, packet_byte, packet_bytes}
use Rattle.fl_wire.specs.PacketFits.{HasCaps, HasData, HasWindow, HasPacket}
use Rattle.fl_wire.specs.PacketGrammar.{end_size, end_fields, label_fields, after_label, caps_fields, after_caps, payload_fields, message_fields, content_fields, data_fields, batch_fields, ops_fields, rank_at, spans_fields, window_head, window_fields, kind_fields, packet_format, packet_fault}
use Rattle.fl_wire.specs.PacketSpelled.{AreBytes, SpellPacket}
use Rattle.fl_wire.specs.parts.SpansRead.{AreSpansAt}
use Rattle.fl_wire.proofs.Heads.{packet_spelled}
use Rattle.fl_wire.proofs.Parts.{message_found, content_found, data_found}
use Rattle.fl_wire.proofs.SpanRead.{rank_read}
use Rattle.fl_wire.proofs.Windows.{window_found}
use Rattle.fl_wire.proofs.There.{all_there, whole_parts, whole_next, byte_there, short_there, name_there, end_there}
use Rattle.fl_wire.proofs.RowsThere.{label_there, caps_there, ops_there, spans_there}

module _ (bs : List ℕ) (fits : AreBytes bs) (f : Format) where
  record MessageThere (at : ℕ) : Type 0 where
    pub message : Message
    pub has : HasCaps f message.caps
    pub spelled : drop at bs ≡ message_bytes f message

  message_there : (at : ℕ) → first_fault (message_fields f bs at) ≡ None → MessageThere at
  message_there at h =
      let place = after_caps f bs at in
      let n = short_at bs place in
      let payload = drop (place + 2) bs in
      let p = whole_parts (caps_fields f bs at) (payload_fields bs place) h in
      let c = caps_there bs fits f at p.0 in
      let q = all_there (payload_fields bs place) p.1 in
      let count = short_there bs fits place 0 1024 q.0 in
      let long : length payload ≡ n =
      omega (arith, length-drop (place + 2) bs, leb-true (place + 2 + n) (length bs) q.1.0, leb-true (length bs) (place + 2 + n) q.1.1.0) in
      let spelled : drop place bs ≡ payload_bytes payload = count.2 ∙ ap (λ m. to_be_bytes w16 m ++ payload) (sym long) in
      let found = message_found f bs at place refl p.0 c.caps payload c.spelled p.1 spelled in
      record {
        message = record { caps = c.caps; payload = payload; few_caps = c.few; few_bytes = omega (arith, long, count.1) };
        has = c.has;
        spelled = found.1;
      }

  record DataThere : Type 0 where
    pub sent : Data
    pub has : HasData f sent
    pub spelled : drop 2 bs ≡ data_bytes f sent

  data_there : first_fault (data_fields f bs 2) ≡ None → DataThere
  data_there h =
      let second = 2 + end_size f in
      let third = 2 + 2 * end_size f in
      let middle = after_label f bs third in
      let last = after_label f bs middle in
      let p = whole_parts (end_fields f bs 2) (end_fields f bs second ++ content_fields f bs third) h in
      let q = whole_parts (end_fields f bs second) (content_fields f bs third) p.1 in
      let r = whole_parts (label_fields f bs third) (label_fields f bs middle ++ message_fields f bs last) q.1 in
      let s = whole_parts (label_fields f bs middle) (message_fields f bs last) r.1 in
      let sender = end_there bs fits f 2 p.0 in
      let receiver = end_there bs fits f second q.0 in
      let secrecy = label_there bs fits f third r.0 in
      let integrity = label_there bs fits f middle s.0 in
      let m = message_there last s.1 in
      let content = content_found f bs third middle refl r.0 last refl s.0 secrecy.label integrity.label (message_bytes f m.message) secrecy.spelled integrity.spelled s.1 m.spelled in
      let found = data_found f bs second third refl refl p.0 sender.pid receiver.pid sender.endpoint.number receiver.endpoint.number
      (label_bytes f secrecy.label ++ (label_bytes f integrity.label ++ message_bytes f m.message)) sender.spelled q.0 receiver.spelled content in
      record {
        sent = record {
          sender = sender.pid;
          from = sender.endpoint;
          receiver = receiver.pid;
          to = receiver.endpoint;
          secrecy = secrecy.label;
          integrity = integrity.label;
          message = m.message;
          secrecy_fits = secrecy.few;
          integrity_fits = integrity.few;
        };
        has = record { sender = sender.has; receiver = receiver.has; secrecy = secrecy.has; integrity = integrity.has; caps = m.has };
        spelled = found.1;
      }

  record BatchThere (at : ℕ) : Type 0 where
    pub batch : Batch
    pub has : AllByRecursion (HasOp f) batch.ops
    pub spelled : drop at bs ≡ batch_bytes f batch.ops

  batch_there : (at : ℕ) → first_fault (batch_fields f bs at) ≡ None → BatchThere at
  batch_there at h =
      let n = slice_index bs at in
      let p = whole_next at (has_byte bs at 1 64) (ops_fields f bs (at + 1) [] n) h in
      let count = byte_there bs at 1 64 p.0 in
      let ops = ops_there bs fits f (at + 1) n p.1 in
      let are = ops.1 in
      record {
        batch = record { ops = ops.0; some = omega (arith, are.counted, count.0); few = omega (arith, are.counted, count.1); rising = are.rises };
        has = are.has;
        spelled = count.2 ∙ (λ i. sym are.counted i ∷ are.spelled i);
      }

  record WindowThere (at : ℕ) : Type 0 where
    pub window : Intervals
    pub has : HasWindow f window
    pub spelled : drop at bs ≡ intervals_bytes f window

  window_there : (at : ℕ) → first_fault (window_fields f bs at) ≡ None → WindowThere at
  window_there at h =
      let size = name_size f in
      let n = short_at bs (at + 2 * size) in
      let place = at + (2 * size + 2) in
      let low = rank_at f bs at in
      let high = rank_at f bs (at + size) in
      let p = whole_parts (window_head f bs at) (spans_fields f bs place low high n) h in
      let q = all_there (window_head f bs at) p.0 in
      let second = and_parts (has_name f bs (at + size)) (leb low high) q.1.0 in
      let from = name_there bs fits f at q.0 in
      let to = name_there bs fits f (at + size) second.0 in
      let count = short_there bs fits (at + 2 * size) 0 512 q.1.1.0 in
      let spans = spans_there bs fits f place low high n p.1 in
      let starts : low ≡ name_rank from.name = rank_read f bs at from.name from.keyed in
      let ends : high ≡ name_rank to.name = rank_read f bs (at + size) to.name to.keyed in
      let ordered : name_rank from.name ≤ name_rank to.name = omega (arith, starts, ends, leb-true low high second.1) in
      let are = subst (λ r. AreSpansAt f bs place r (name_rank to.name) n spans.0) starts (subst (λ r. AreSpansAt f bs place low r n spans.0) ends spans.1) in
      let found = window_found f bs at size n n from.name to.name spans.0 refl (q.0, from.has, from.keyed, from.spelled) (second.0, to.has, to.keyed, to.spelled)
      ordered (q.1.1.0, refl, count.0, count.1, count.2) refl are in
      record {
        window = record { from = from.name; to = to.name; spans = spans.0; ordered = ordered; few = omega (arith, are.counted, count.1); fitting = are.fitting };
        has = record { from = from.has; to = to.has; spans = are.has };
        spelled = found.1;
      }

  pub record KindThere (kind : ℕ) : Type 0 where
    pub packet : Packet
    pub has : HasPacket f packet
    pub spelled : packet_bytes f packet ≡ packet_byte f ∷ kind ∷ drop 2 bs

  pub kind_there : (kind : ℕ) → 1 ≤ kind → kind ≤ 4 → first_fault (kind_fields f bs kind) ≡ None → KindThere kind
  kind_there zero low high h = absurd (omega arith)
  kind_there (suc zero) low high h =
      let it = batch_there 2 h in record { packet = kinds.Full it.batch; has = it.has; spelled = ap (λ l. packet_byte f ∷ 1 ∷ l) (sym it.spelled) }
  kind_there (suc (suc zero)) low high h =
      let it = window_there 2 h in record { packet = kinds.Have it.window; has = it.has; spelled = ap (λ l. packet_byte f ∷ 2 ∷ l) (sym it.spelled) }
  kind_there (suc (suc (suc zero))) low high h =
      let it = batch_there 2 h in record { packet = kinds.Delta it.batch; has = it.has; spelled = ap (λ l. packet_byte f ∷ 3 ∷ l) (sym it.spelled) }
  kind_there (suc (suc (suc (suc zero)))) low high h =
      let it = data_there h in record { packet = kinds.Data it.sent; has = it.has; spelled = ap (λ l. packet_byte f ∷ 4 ∷ l) (sym it.spelled) }
  kind_there (suc (suc (suc (suc (suc more))))) low high h = absurd (omega arith)

pub packet_there : (bs : List ℕ) → AreBytes bs → packet_fault bs ≡ None → SpellPacket bs
packet_there bs fits h =
    let b = slice_index bs 0 in
    let kind = slice_index bs 1 in
    let f = packet_format b in
    let p = whole_next 0 (has_byte bs 0 241 242) ((1, has_byte bs 1 1 4) ∷ kind_fields f bs kind) h in
    let q = whole_next 1 (has_byte bs 1 1 4) (kind_fields f bs kind) p.1 in
    let first = byte_there bs 0 241 242 p.0 in
    let second = byte_there bs 1 1 4 q.0 in
    let it = kind_there bs fits f kind second.0 second.1 q.1 in
    record {
      packet = it.packet;
      format = f;
      has = it.has;
      spelled = it.spelled
          ∙ packet_spelled bs b kind f (p.0, refl, first.0, first.1, first.2) (q.0, refl, second.0, second.1, second.2) refl (drop 2 bs) refl;
    }
