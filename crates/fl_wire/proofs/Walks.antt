-- What the walks over fields owe, of which nothing is kept.
use Rattle.std.proofs.Common.{◌≡◌, ℕ, ◌+◌, ◌*◌, ◌≤◌, ◌&&◌, leb, Bool, true, List, [], ◌++◌, length, Result, Ok, Err, Some, None, slice_index, if◌then◌else◌, sym, ap, ◌∙◌, arith}
use Rattle.std.proofs.lemmas.Bool.{and_parts, leb-true}
use Rattle.fl_ops.specs.declared.format.Format.{Format}
use Rattle.fl_ops.specs.declared.format.Format.TheVariants.{One, Two}
use Rattle.fl_ops.specs.Bytes.{name_size, cap_size}
use Rattle.fl_ops.specs.Grammar.{first_fault, has_byte}
use Rattle.fl_wire.specs.declared.fault.ReadFault.{ReadFault}
use Rattle.fl_wire.specs.declared.fault.ReadFault.TheVariants.{BadPacket, Memory}
use Rattle.fl_wire.specs.Fields.{short_at, has_short}
use Rattle.fl_wire.specs.PacketGrammar.{end_size, end_fields, tag_fields, label_fields, after_label, each_cap, caps_fields, after_caps, payload_fields, message_fields, content_fields, data_fields, ops_fields, batch_fields}
use Rattle.fl_wire.specs.parts.Walked.{AreWalked, AreWalkedTo}
use Rattle.fl_wire.proofs.Faults.{fault_rest}
use Rattle.fl_wire.proofs.There.{whole_next}

pub are_walked : {A : Type 0} (fs gs : List (ℕ × Bool)) (r : Result A ReadFault) → first_fault fs ≡ first_fault gs → AreWalked gs r → AreWalked fs r
are_walked fs gs (Ok x) same h = same ∙ h
are_walked fs gs (Err (BadPacket place)) same h = same ∙ h
are_walked fs gs (Err Memory) same h = h

walked_to : (fs gs : List (ℕ × Bool)) (p q : ℕ) (r : Result ℕ ReadFault) → first_fault fs ≡ first_fault gs → p ≡ q → AreWalkedTo gs p r → AreWalkedTo fs q r
walked_to fs gs p q (Ok x) same ends h = (same ∙ h.0, h.1 ∙ ends)
walked_to fs gs p q (Err (BadPacket place)) same ends h = same ∙ h
walked_to fs gs p q (Err Memory) same ends h = h

module _ (f : Format) (bs : List ℕ) (at n count : ℕ) (r : Result ℕ ReadFault) where
  pub label_walked : has_short bs at 0 256 ≡ true → n ≡ short_at bs at → count ≡ n
      → AreWalkedTo (tag_fields f bs (at + 2) count) (at + 2 + name_size f * count) r → AreWalkedTo (label_fields f bs at) (after_label f bs at) r
  label_walked there is same h =
      let end : at + 2 + name_size f * count ≡ after_label f bs at = rw (same ∙ is) (omega arith) in
      walked_to (label_fields f bs at) (tag_fields f bs (at + 2) count) (at + 2 + name_size f * count) (after_label f bs at) r
      (ap (λ b. if b then first_fault (tag_fields f bs (at + 2) (short_at bs at)) else Some at) there ∙ ap (λ m. first_fault (tag_fields f bs (at + 2) m)) (sym is ∙ sym same)) end h

  pub caps_walked : has_byte bs at 0 64 ≡ true → n ≡ slice_index bs at → count ≡ n
      → AreWalkedTo (each_cap f bs (at + 1) count) (at + 1 + cap_size f * count) r → AreWalkedTo (caps_fields f bs at) (after_caps f bs at) r
  caps_walked there is same h =
      let end : at + 1 + cap_size f * count ≡ after_caps f bs at = rw (same ∙ is) (omega arith) in
      walked_to (caps_fields f bs at) (each_cap f bs (at + 1) count) (at + 1 + cap_size f * count) (after_caps f bs at) r
      (ap (λ b. if b then first_fault (each_cap f bs (at + 1) (slice_index bs at)) else Some at) there ∙ ap (λ m. first_fault (each_cap f bs (at + 1) m)) (sym is ∙ sym same)) end h

-- a label without a fault ends near
pub label_near : (f : Format) (bs : List ℕ) (at end : ℕ) → first_fault (label_fields f bs at) ≡ None → end ≡ after_label f bs at → end ≤ at + 2050
label_near f bs at end whole is =
    let n = short_at bs at in
    let p = and_parts (leb (at + 2) (length bs)) (leb 0 n && leb n 256) (whole_next at (has_short bs at 0 256) (tag_fields f bs (at + 2) n) whole).0 in
    let q = and_parts (leb 0 n) (leb n 256) p.1 in
    near f (leb-true n 256 q.1) is
  where
    near : {n : ℕ} (f : Format) → n ≤ 256 → end ≡ at + (2 + name_size f * n) → end ≤ at + 2050
    near One few is = omega (arith, few, is)
    near Two few is = omega (arith, few, is)

-- what is left to look at, once the parts before have no fault
module _ (f : Format) (bs : List ℕ) (at second : ℕ) where
  pub message_second : first_fault (caps_fields f bs at) ≡ None → second ≡ after_caps f bs at → first_fault (message_fields f bs at) ≡ first_fault (payload_fields bs second)
  message_second whole next =
      fault_rest (caps_fields f bs at) (payload_fields bs (after_caps f bs at)) whole ∙ ap (λ n. first_fault (payload_fields bs n)) (sym next)

  module _ (whole : first_fault (label_fields f bs at) ≡ None) (next : second ≡ after_label f bs at) where
    pub content_second : first_fault (content_fields f bs at) ≡ first_fault (label_fields f bs second ++ message_fields f bs (after_label f bs second))
    content_second =
        fault_rest (label_fields f bs at) (label_fields f bs (after_label f bs at) ++ message_fields f bs (after_label f bs (after_label f bs at))) whole
        ∙ ap (λ n. first_fault (label_fields f bs n ++ message_fields f bs (after_label f bs n))) (sym next)

    pub content_third : (third : ℕ) → first_fault (label_fields f bs second) ≡ None → third ≡ after_label f bs second
        → first_fault (content_fields f bs at) ≡ first_fault (message_fields f bs third)
    content_third third none last =
        content_second ∙ fault_rest (label_fields f bs second) (message_fields f bs (after_label f bs second)) none ∙ ap (λ n. first_fault (message_fields f bs n)) (sym last)

module _ (f : Format) (bs : List ℕ) (second third : ℕ) (at_second : second ≡ 2 + end_size f) (at_third : third ≡ 2 + 2 * end_size f)
    (whole : first_fault (end_fields f bs 2) ≡ None) where
  pub data_second : first_fault (data_fields f bs 2) ≡ first_fault (end_fields f bs second ++ content_fields f bs third)
  data_second =
      fault_rest (end_fields f bs 2) (end_fields f bs (2 + end_size f) ++ content_fields f bs (2 + 2 * end_size f)) whole
      ∙ (λ i. first_fault (end_fields f bs (sym at_second i) ++ content_fields f bs (sym at_third i)))

  pub data_third : first_fault (end_fields f bs second) ≡ None → first_fault (data_fields f bs 2) ≡ first_fault (content_fields f bs third)
  data_third none = data_second ∙ fault_rest (end_fields f bs second) (content_fields f bs third) none

pub batch_walked : (f : Format) (bs : List ℕ) (n count : ℕ) (r : Result (Unit {0}) ReadFault) → has_byte bs 2 1 64 ≡ true → n ≡ slice_index bs 2 → count ≡ n
    → AreWalked (ops_fields f bs 3 [] count) r → AreWalked (batch_fields f bs 2) r
batch_walked f bs n count r there is same h =
    are_walked (batch_fields f bs 2) (ops_fields f bs 3 [] count) r
    (ap (λ b. if b then first_fault (ops_fields f bs 3 [] (slice_index bs 2)) else Some 2) there ∙ ap (λ m. first_fault (ops_fields f bs 3 [] m)) (sym is ∙ sym same)) h
