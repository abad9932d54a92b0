-- What the readers of a packet's parts owe.
use Rattle.std.proofs.Common.{◌≡◌, ℕ, ◌+◌, ◌*◌, ◌≤◌, List, ◌∷◌, ◌++◌, drop, slice_index, None, sym, ap, subst, ◌∙◌, arith}
use Rattle.fl_labels.specs.declared.pid.Pid.{Pid}
use Rattle.fl_labels.specs.Name.{name_cmp}
use Rattle.fl_labels.specs.Cap.{cap_cmp}
use Rattle.fl_labels.specs.SetBy.{SetBy}
use Rattle.fl_ops.specs.declared.format.Format.{Format}
use Rattle.fl_ops.specs.Grammar.{first_fault}
use Rattle.fl_wire.specs.declared.fault.ReadFault.{ReadFault}
use Rattle.fl_wire.specs.declared.fault.ReadFault.TheVariants.{BadPacket, Memory}
use Rattle.fl_wire.specs.Faults.{IsBad, IsBadOrMemory, IsBadOrMemoryAfter}
use Rattle.fl_wire.specs.Fields.{short_at}
use Rattle.fl_wire.specs.PacketBytes.{pid_bytes, label_bytes, caps_bytes, payload_bytes}
use Rattle.fl_wire.specs.PacketGrammar.{end_size, end_fields, label_fields, after_label, caps_fields, after_caps, payload_fields, message_kept, message_fields, content_kept, content_fields, data_head, data_kept, data_fields}
use Rattle.fl_wire.proofs.Faults.{fault_front, fault_rest, bad_front, bad_rest, bad_more, bad_after}

second_within : {n m : ℕ} (k : ℕ) → n ≡ m → n ≤ k + m
second_within k same = omega (arith, same)

middle_within : {n m : ℕ} (k l : ℕ) → n ≡ m → n ≤ k + (m + l)
middle_within k l same = omega (arith, same)

last_within : {n m : ℕ} (k l : ℕ) → n ≡ m → n ≤ k + (l + m)
last_within k l same = omega (arith, same)

module _ (f : Format) (bs : List ℕ) (at place : ℕ) (next : place ≡ after_caps f bs at) (whole : first_fault (caps_fields f bs at) ≡ None) where
  abbrev at_place : message_fields f bs at ≡ caps_fields f bs at ++ payload_fields bs place
  at_place = ap (λ n. caps_fields f bs at ++ payload_fields bs n) (sym next)

  pub message_found : (s : SetBy cap_cmp) (p : List ℕ) → drop at bs ≡ caps_bytes f s ++ drop (after_caps f bs at) bs
      → first_fault (payload_fields bs place) ≡ None → drop place bs ≡ payload_bytes p
      → (first_fault (message_fields f bs at) ≡ None) × (drop at bs ≡ caps_bytes f s ++ payload_bytes p)
  message_found s p start rest end = (
    ap first_fault at_place ∙ fault_rest (caps_fields f bs at) (payload_fields bs place) whole ∙ rest,
    start ∙ ap (λ l. caps_bytes f s ++ l) (ap (λ n. drop n bs) (sym next) ∙ end),
  )

  pub message_bad : (x : ReadFault) → IsBadOrMemory (short_at bs place) (payload_fields bs place) x → IsBadOrMemory (message_kept f bs at) (message_fields f bs at) x
  message_bad x bad =
      let kept = message_kept f bs at in
      subst (λ fs. IsBadOrMemory kept fs x) (sym at_place)
      (bad_rest kept (caps_fields f bs at) (payload_fields bs place) x whole
      (bad_more (short_at bs place) kept (payload_fields bs place) x (omega (arith, second_within (slice_index bs at) (ap (short_at bs) next))) bad))

module _ (f : Format) (bs : List ℕ) (at middle : ℕ) (first : middle ≡ after_label f bs at) (whole : first_fault (label_fields f bs at) ≡ None) where
  abbrev at_middle : content_fields f bs at ≡ label_fields f bs at ++ (label_fields f bs middle ++ message_fields f bs (after_label f bs middle))
  at_middle = ap (λ n. label_fields f bs at ++ (label_fields f bs n ++ message_fields f bs (after_label f bs n))) (sym first)

  pub middle_bad : (x : ReadFault) → IsBadOrMemory (short_at bs middle) (label_fields f bs middle) x → IsBadOrMemory (content_kept f bs at) (content_fields f bs at) x
  middle_bad x bad =
      let kept = content_kept f bs at in
      let within : short_at bs middle ≤ kept = middle_within (short_at bs at) (message_kept f bs (after_label f bs (after_label f bs at))) (ap (short_at bs) first) in
      subst (λ fs. IsBadOrMemory kept fs x) (sym at_middle)
      (bad_rest kept (label_fields f bs at) (label_fields f bs middle ++ message_fields f bs (after_label f bs middle)) x whole
      (bad_front kept (label_fields f bs middle) (message_fields f bs (after_label f bs middle)) x (bad_more (short_at bs middle) kept (label_fields f bs middle) x within bad)))

  module _ (last : ℕ) (second : last ≡ after_label f bs middle) (rest : first_fault (label_fields f bs middle) ≡ None) where
    abbrev at_last : content_fields f bs at ≡ label_fields f bs at ++ (label_fields f bs middle ++ message_fields f bs last)
    at_last = at_middle ∙ ap (λ n. label_fields f bs at ++ (label_fields f bs middle ++ message_fields f bs n)) (sym second)

    pub last_bad : (x : ReadFault) → IsBadOrMemory (message_kept f bs last) (message_fields f bs last) x → IsBadOrMemory (content_kept f bs at) (content_fields f bs at) x
    last_bad x bad =
        let kept = content_kept f bs at in
        let within : message_kept f bs last ≤ kept = last_within (short_at bs at) (short_at bs (after_label f bs at)) (ap (message_kept f bs) (second ∙ ap (after_label f bs) first)) in
        subst (λ fs. IsBadOrMemory kept fs x) (sym at_last)
        (bad_rest kept (label_fields f bs at) (label_fields f bs middle ++ message_fields f bs last) x whole
        (bad_rest kept (label_fields f bs middle) (message_fields f bs last) x rest (bad_more (message_kept f bs last) kept (message_fields f bs last) x within bad)))

    pub content_found : (s t : SetBy name_cmp) (m : List ℕ) → drop at bs ≡ label_bytes f s ++ drop (after_label f bs at) bs
        → drop middle bs ≡ label_bytes f t ++ drop (after_label f bs middle) bs
        → first_fault (message_fields f bs last) ≡ None → drop last bs ≡ m
        → (first_fault (content_fields f bs at) ≡ None) × (drop at bs ≡ label_bytes f s ++ (label_bytes f t ++ m))
    content_found s t m start go none end = (
      ap first_fault at_last ∙ fault_rest (label_fields f bs at) (label_fields f bs middle ++ message_fields f bs last) whole
          ∙ fault_rest (label_fields f bs middle) (message_fields f bs last) rest ∙ none,
      start ∙ ap (λ l. label_bytes f s ++ l) (ap (λ n. drop n bs) (sym first) ∙ go ∙ ap (λ l. label_bytes f t ++ l) (ap (λ n. drop n bs) (sym second) ∙ end)),
    )

module _ (f : Format) (bs : List ℕ) (second third : ℕ) (at_second : second ≡ 2 + end_size f) (at_third : third ≡ 2 + 2 * end_size f)
    (whole : first_fault (end_fields f bs 2) ≡ None) where
  abbrev head_at : data_head f bs 2 ≡ end_fields f bs 2 ++ end_fields f bs second
  head_at = ap (λ n. end_fields f bs 2 ++ end_fields f bs n) (sym at_second)

  abbrev data_at : data_fields f bs 2 ≡ end_fields f bs 2 ++ (end_fields f bs second ++ content_fields f bs third)
  data_at = λ i. end_fields f bs 2 ++ (end_fields f bs (sym at_second i) ++ content_fields f bs (sym at_third i))

  pub receiver_bad : (x : ReadFault) → IsBad (end_fields f bs second) x → IsBadOrMemoryAfter (data_head f bs 2) (data_kept f bs 2) (data_fields f bs 2) x
  receiver_bad (BadPacket place) bad =
      ap first_fault data_at ∙ fault_rest (end_fields f bs 2) (end_fields f bs second ++ content_fields f bs third) whole
      ∙ fault_front (end_fields f bs second) (content_fields f bs third) place bad
  receiver_bad Memory bad = absurd bad

  pub content_bad : (x : ReadFault) → first_fault (end_fields f bs second) ≡ None → IsBadOrMemory (content_kept f bs third) (content_fields f bs third) x
      → IsBadOrMemoryAfter (data_head f bs 2) (data_kept f bs 2) (data_fields f bs 2) x
  content_bad x none bad =
      let kept = data_kept f bs 2 in
      bad_after (data_head f bs 2) kept (data_fields f bs 2) x (ap first_fault head_at ∙ fault_rest (end_fields f bs 2) (end_fields f bs second) whole ∙ none)
      (subst (λ fs. IsBadOrMemory kept fs x) (sym data_at)
      (bad_rest kept (end_fields f bs 2) (end_fields f bs second ++ content_fields f bs third) x whole
      (bad_rest kept (end_fields f bs second) (content_fields f bs third) x none (subst (λ n. IsBadOrMemory (content_kept f bs n) (content_fields f bs third) x) at_third bad))))

  pub data_found : (p q : Pid) (n k : ℕ) (content : List ℕ) → drop 2 bs ≡ pid_bytes f p ++ n ∷ drop (2 + end_size f) bs
      → first_fault (end_fields f bs second) ≡ None → drop second bs ≡ pid_bytes f q ++ k ∷ drop (second + end_size f) bs
      → (first_fault (content_fields f bs third) ≡ None) × (drop third bs ≡ content)
      → (first_fault (data_fields f bs 2) ≡ None) × (drop 2 bs ≡ pid_bytes f p ++ n ∷ (pid_bytes f q ++ k ∷ content))
  data_found p q n k content start none receiver rest =
      let end : second + end_size f ≡ third = omega (arith, at_second, at_third) in (
        ap first_fault data_at ∙ fault_rest (end_fields f bs 2) (end_fields f bs second ++ content_fields f bs third) whole ∙ fault_rest (end_fields f bs second) (content_fields f bs third) none ∙ rest.0,
        start ∙ ap (λ m. pid_bytes f p ++ n ∷ drop m bs) (sym at_second) ∙ ap (λ l. pid_bytes f p ++ n ∷ l) (receiver ∙ ap (λ m. pid_bytes f q ++ k ∷ drop m bs) end ∙ ap (λ l. pid_bytes f q ++ k ∷ l) rest.1),
      )
