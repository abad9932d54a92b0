-- What the reader of a packet owes, after its format and its kind.
use Rattle.std.proofs.Common.{◌≡◌, ℕ, ◌<◌, ◌≤◌, true, List, ◌∷◌, drop, slice_index, Some, if◌then◌else◌, inl, inr, refl, sym, ap, subst, ◌∙◌, arith}
use Rattle.std.proofs.lemmas.Bool.{cases_eq}
use Rattle.fl_ops.specs.declared.format.Format.{Format}
use Rattle.fl_ops.specs.Grammar.{first_fault, has_byte}
use Rattle.fl_wire.specs.declared.fault.ReadFault.{ReadFault}
use Rattle.fl_wire.specs.declared.fault.ReadFault.TheVariants.{BadPacket, Memory}
use Rattle.fl_wire.specs.Faults.{IsBadOrMemoryAfter}
use Rattle.fl_wire.specs.PacketBytes.{packet_byte}
use Rattle.fl_wire.specs.PacketGrammar.{packet_format, kind_head, kind_kept, kind_fields, packet_head, packet_kept, packet_fields}

-- the byte of a format, as it was read
byte_back : (b : ℕ) → 241 ≤ b → b ≤ 242 → packet_byte (packet_format b) ≡ b
byte_back b low high = elim (cases_eq b 241) [
  | inl e ↦ subst (λ n. packet_byte (packet_format n) ≡ n) (sym e) first
  | inr ne ↦
      let e : b ≡ 242 = omega arith in
      subst (λ n. packet_byte (packet_format n) ≡ n) (sym e) second
]
  where
    first : packet_byte (packet_format 241) ≡ 241
    first = refl

    second : packet_byte (packet_format 242) ≡ 242
    second = refl

module _ (bs : List ℕ) (b kind : ℕ) (f : Format) (first : (has_byte bs 0 241 242 ≡ true) × (b ≡ slice_index bs 0) × (241 ≤ b) × (b ≤ 242) × (drop 0 bs ≡ b ∷ drop 1 bs))
    (second : (has_byte bs 1 1 4 ≡ true) × (kind ≡ slice_index bs 1) × (1 ≤ kind) × (kind ≤ 4) × (drop 1 bs ≡ kind ∷ drop 2 bs)) (said : f ≡ packet_format b) where
  pub format_is : f ≡ packet_format (slice_index bs 0)
  format_is = said ∙ ap packet_format first.1

  pub packet_is : first_fault (packet_fields bs) ≡ first_fault (kind_fields f bs kind)
  packet_is = λ i. if first.0 i then (if second.0 i then first_fault (kind_fields (sym format_is i) bs (sym second.1 i)) else Some 1) else Some 0

  pub packet_bad : (x : ReadFault) → IsBadOrMemoryAfter (kind_head f bs kind) (kind_kept f bs kind) (kind_fields f bs kind) x
      → IsBadOrMemoryAfter (packet_head bs) (packet_kept bs) (packet_fields bs) x
  packet_bad (BadPacket place) h = packet_is ∙ h
  packet_bad Memory h = (
    (λ i. if first.0 i then (if second.0 i then first_fault (kind_head (sym format_is i) bs (sym second.1 i)) else Some 1) else Some 0) ∙ h.0,
    subst (λ g. 0 < kind_kept g bs (slice_index bs 1)) format_is (subst (λ k. 0 < kind_kept f bs k) second.1 h.1),
  )

  pub packet_spelled : (rest : List ℕ) → drop 2 bs ≡ rest → packet_byte f ∷ kind ∷ rest ≡ bs
  packet_spelled rest e =
      let byte : packet_byte f ≡ b = ap packet_byte said ∙ byte_back b first.2 first.3 in
      sym (first.4 ∙ ap (λ l. b ∷ l) (second.4 ∙ ap (λ l. kind ∷ l) e) ∙ ap (λ n. n ∷ kind ∷ rest) (sym byte))
