-- What the reader of a window owes where it finds one.
use Rattle.std.proofs.Common.{◌≡◌, ℕ, ◌+◌, ◌*◌, ◌≤◌, ◌&&◌, true, List, ◌++◌, length, drop, leb, Some, None, Result, if◌then◌else◌, sym, ap, subst, ◌∙◌, arith}
use Rattle.std.specs.Int.{w16, to_be_bytes}
use Rattle.std.specs.List.{flat_map}
use Rattle.std.proofs.lemmas.Bool.{le-leb}
use Rattle.fl_labels.specs.declared.name.Name.{Name}
use Rattle.fl_ops.specs.declared.format.Format.{Format}
use Rattle.fl_ops.specs.Bytes.{name_bytes, name_size}
use Rattle.fl_ops.specs.Fits.{HasName}
use Rattle.fl_ops.specs.Grammar.{first_fault, has_name}
use Rattle.fl_opset.specs.declared.span.Span.{Span}
use Rattle.fl_opset.specs.Rank.{name_rank}
use Rattle.fl_wire.specs.declared.fault.ReadFault.{ReadFault}
use Rattle.fl_wire.specs.Fields.{short_at, has_short, tag_key}
use Rattle.fl_wire.specs.PacketBytes.{span_bytes}
use Rattle.fl_wire.specs.PacketGrammar.{rank_at, spans_fields, window_fields}
use Rattle.fl_wire.specs.parts.Items.{name_key}
use Rattle.fl_wire.specs.parts.SpansRead.{AreSpansAt}
use Rattle.fl_wire.specs.parts.Walked.{AreWalked}
use Rattle.fl_wire.proofs.SpanRead.{rank_read}
use Rattle.fl_wire.proofs.Walks.{are_walked}

-- a name at a place, as `tag_at` answers it
abbrev TagAt : Format → List ℕ → ℕ → Name → Type 0
TagAt f bs at n = (has_name f bs at ≡ true) × HasName f n × (tag_key f bs at ≡ name_key n) × (drop at bs ≡ name_bytes f n ++ drop (at + name_size f) bs)

-- a number of spans, as `short_at` answers it
abbrev ShortAt : List ℕ → ℕ → ℕ → Type 0
ShortAt bs at n = (has_short bs at 0 512 ≡ true) × (n ≡ short_at bs at) × (0 ≤ n) × (n ≤ 512) × (drop at bs ≡ to_be_bytes w16 n ++ drop (at + 2) bs)

module _ (f : Format) (bs : List ℕ) (at n : ℕ) (from to : Name) (a : TagAt f bs at from) (b : TagAt f bs (at + name_size f) to)
    (ordered : name_rank from ≤ name_rank to) (c : ShortAt bs (at + 2 * name_size f) n) where
  -- the head has no fault
  window_rest : first_fault (window_fields f bs at) ≡ first_fault (spans_fields f bs (at + (2 * name_size f + 2)) (name_rank from) (name_rank to) n)
  window_rest =
      let low : rank_at f bs at ≡ name_rank from = rank_read f bs at from a.2 in
      let high : rank_at f bs (at + name_size f) ≡ name_rank to = rank_read f bs (at + name_size f) to b.2 in
      let rises : (has_name f bs (at + name_size f) && leb (rank_at f bs at) (rank_at f bs (at + name_size f))) ≡ true =
      λ i. b.0 i && le-leb (rank_at f bs at) (rank_at f bs (at + name_size f)) (omega (arith, low, high, ordered)) i in
      λ i. if a.0 i then (if rises i then (if c.0 i then first_fault (spans_fields f bs (at + (2 * name_size f + 2)) (low i) (high i) (sym c.1 i)) else Some (at + 2 * name_size f)) else Some (at + name_size f)) else Some at

  whole_window : (spans : List Span) → AreSpansAt f bs (at + (2 * name_size f + 2)) (name_rank from) (name_rank to) n spans
      → (first_fault (window_fields f bs at) ≡ None) × (drop at bs ≡ name_bytes f from ++ (name_bytes f to ++ (to_be_bytes w16 (length spans) ++ flat_map (span_bytes f) spans)))
  whole_window spans s =
      let second : at + name_size f + name_size f ≡ at + 2 * name_size f = omega arith in
      let third : at + 2 * name_size f + 2 ≡ at + (2 * name_size f + 2) = omega arith in (
        window_rest ∙ s.whole,
        a.3 ∙ ap (λ l. name_bytes f from ++ l) (b.3 ∙ ap (λ m. name_bytes f to ++ drop m bs) second ∙ ap (λ l. name_bytes f to ++ l)
            (c.4 ∙ (λ i. to_be_bytes w16 (sym s.counted i) ++ drop (third i) bs) ∙ ap (λ l. to_be_bytes w16 (length spans) ++ l) s.spelled)),
      )

-- as the code has it, of a size that it was told
pub window_found : (f : Format) (bs : List ℕ) (at size n count : ℕ) (from to : Name) (spans : List Span) → size ≡ name_size f → TagAt f bs at from → TagAt f bs (at + size) to
    → name_rank from ≤ name_rank to → ShortAt bs (at + 2 * size) n → count ≡ n → AreSpansAt f bs (at + (2 * size + 2)) (name_rank from) (name_rank to) count spans
    → (first_fault (window_fields f bs at) ≡ None) × (drop at bs ≡ name_bytes f from ++ (name_bytes f to ++ (to_be_bytes w16 (length spans) ++ flat_map (span_bytes f) spans)))
window_found f bs at size n count from to spans p a b ordered c q s =
    whole_window f bs at n from to a (subst (λ k. TagAt f bs (at + k) to) p b) ordered (subst (λ k. ShortAt bs (at + 2 * k) n) p c) spans
    (subst (λ m. AreSpansAt f bs (at + (2 * name_size f + 2)) (name_rank from) (name_rank to) m spans) q (subst (λ k. AreSpansAt f bs (at + (2 * k + 2)) (name_rank from) (name_rank to) count spans) p s))

pub window_walked : (f : Format) (bs : List ℕ) (at size n count low high : ℕ) (from to : Name) (r : Result (Unit {0}) ReadFault) → size ≡ name_size f → TagAt f bs at from
    → TagAt f bs (at + size) to → name_rank from ≤ name_rank to → ShortAt bs (at + 2 * size) n → count ≡ n → low ≡ name_rank from → high ≡ name_rank to
    → AreWalked (spans_fields f bs (at + (2 * size + 2)) low high count) r → AreWalked (window_fields f bs at) r
window_walked f bs at size n count low high from to r p a b ordered c q first last walked =
    are_walked (window_fields f bs at) (spans_fields f bs (at + (2 * size + 2)) low high count) r
    (window_rest f bs at n from to a (subst (λ k. TagAt f bs (at + k) to) p b) ordered (subst (λ k. ShortAt bs (at + 2 * k) n) p c)
    ∙ (λ i. first_fault (spans_fields f bs (at + (2 * sym p i + 2)) (sym first i) (sym last i) (sym q i)))) walked
