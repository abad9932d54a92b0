-- Spans that are read one after another.
use Rattle.std.proofs.Common.{◌≡◌, ℕ, suc, ◌+◌, ◌<◌, ◌≤◌, true, false, if◌then◌else◌, List, [], ◌∷◌, ◌++◌, length, drop, Some, None, refl, sym, ap, subst, ◌∙◌, arith, leb, append_assoc, append-nil, length-append}
use Rattle.std.specs.List.{flat_map}
use Rattle.std.proofs.lemmas.Bool.{le-leb}
use Rattle.std.proofs.lemmas.Bool.Decides.{nat_tests}
use Rattle.std.proofs.lemmas.List.{flat_map_more, drop_all}
use Rattle.std.specs.List.{AllByRecursion}
use Rattle.fl_ops.specs.declared.format.Format.{Format}
use Rattle.fl_ops.specs.Grammar.{first_fault}
use Rattle.fl_opset.specs.declared.span.Span.{Span}
use Rattle.fl_opset.specs.Rank.{last_rank}
use Rattle.fl_opset.specs.Spans.{fit}
use Rattle.fl_opset.specs.laws.Fits.{at_fit}
use Rattle.fl_wire.specs.declared.fault.ReadFault.{ReadFault}
use Rattle.fl_wire.specs.declared.fault.ReadFault.TheVariants.{BadPacket, Memory}
use Rattle.fl_wire.specs.Faults.{IsBad}
use Rattle.fl_wire.specs.PacketBytes.{span_bytes}
use Rattle.fl_wire.specs.PacketFits.{HasSpan}
use Rattle.fl_wire.specs.PacketGrammar.{span_size, span_fields, spans_fields, last_at}
use Rattle.fl_wire.specs.parts.SpansRead.{IsSpanAt, AreSpansAt}
use Rattle.fl_wire.proofs.Sets.{all_more}
use Rattle.fl_wire.proofs.Faults.{fault_front, fault_rest}

-- after spans without a fault so many are left from a place on, the next one from a rank on
pub record SpansWalked (f : Format) (bytes : List ℕ) (at from high count place low left : ℕ) : Type 0 where
  pub faults : first_fault (spans_fields f bytes at from high count) ≡ first_fault (spans_fields f bytes place low high left)

-- the same, where the spans are xs
pub record SpansTo (f : Format) (bytes : List ℕ) (at from high count place low left : ℕ) (xs : List Span) : Type 0 where
  pub walked : SpansWalked f bytes at from high count place low left
  pub spelled : drop at bytes ≡ flat_map (span_bytes f) xs ++ drop place bytes
  pub counted : length xs + left ≡ count
  pub has : AllByRecursion (HasSpan f) xs
  pub more : (ss : List Span) → fit low high ss ≡ true → fit from high (xs ++ ss) ≡ true

module _ {f : Format} {bytes : List ℕ} {at from high count : ℕ} where
  pub spans_unwalked : (place left : ℕ) → at ≡ place → left ≡ count → SpansWalked f bytes at from high count place from left
  spans_unwalked place left p q = record { faults = λ i. first_fault (spans_fields f bytes (p i) from high (sym q i)) }

  pub spans_walk : (place low left : ℕ) (s : Span) (next rank less : ℕ) → SpansWalked f bytes at from high count place low left → IsSpanAt f bytes place low high s
      → place + span_size f ≡ next → rank ≡ last_rank s → left ≡ suc less → SpansWalked f bytes at from high count next (rank + 2) less
  spans_walk place low left s next rank less w n p e q = record {
    faults = w.faults ∙ ap (λ m. first_fault (spans_fields f bytes place low high m)) q
        ∙ fault_rest (span_fields f bytes place low high) (spans_fields f bytes (place + span_size f) (last_at f bytes place + 2) high less) n.whole
        ∙ (λ i. first_fault (spans_fields f bytes (p i) ((n.last ∙ sym e) i + 2) high less));
  }

  pub spans_bad : (place low left less : ℕ) (x : ReadFault) → SpansWalked f bytes at from high count place low left → left ≡ suc less
      → IsBad (span_fields f bytes place low high) x → IsBad (spans_fields f bytes at from high count) x
  spans_bad place low left less (BadPacket p) w q bad =
      w.faults ∙ ap (λ m. first_fault (spans_fields f bytes place low high m)) q
      ∙ fault_front (span_fields f bytes place low high) (spans_fields f bytes (place + span_size f) (last_at f bytes place + 2) high less) p bad
  spans_bad place low left less Memory w q bad = absurd bad

  -- after the last one, what follows it is the only fault
  pub spans_past : (place low left : ℕ) → SpansWalked f bytes at from high count place low left → left ≡ 0
      → first_fault (spans_fields f bytes at from high count) ≡ first_fault ((place, leb (length bytes) place) ∷ [])
  spans_past place low left w done = w.faults ∙ ap (λ m. first_fault (spans_fields f bytes place low high m)) done

  pub spans_none : (place left : ℕ) (xs : List Span) → at ≡ place → left ≡ count → xs ≡ [] → SpansTo f bytes at from high count place from left xs
  spans_none place left xs p q none = subst (λ l. SpansTo f bytes at from high count place from left l) (sym none) (record {
    walked = spans_unwalked place left p q;
    spelled = ap (λ n. drop n bytes) p;
    counted = omega (arith, q);
    has = tt;
    more = λ ss h. h;
  })

  pub spans_more : (place low left : ℕ) (xs ys : List Span) (s : Span) (next rank less : ℕ) → SpansTo f bytes at from high count place low left xs → IsSpanAt f bytes place low high s
      → place + span_size f ≡ next → rank ≡ last_rank s → left ≡ suc less → ys ≡ xs ++ s ∷ [] → SpansTo f bytes at from high count next (rank + 2) less ys
  spans_more place low left xs ys s next rank less r n p e q new = subst (λ l. SpansTo f bytes at from high count next (rank + 2) less l) (sym new) (record {
    walked = spans_walk place low left s next rank less r.walked n p e q;
    spelled = r.spelled ∙ ap (λ l. flat_map (span_bytes f) xs ++ l) (n.spelled ∙ ap (λ m. span_bytes f s ++ drop m bytes) p)
        ∙ sym (append_assoc (flat_map (span_bytes f) xs) (span_bytes f s) (drop next bytes)) ∙ ap (λ l. l ++ drop next bytes) (flat_map_more (span_bytes f) [] xs s);
    counted = omega (arith, length-append xs (s ∷ []), r.counted, q);
    has = all_more (HasSpan f) xs s r.has n.has;
    more = λ ss h. subst (λ l. fit from high l ≡ true) (sym (append_assoc xs (s ∷ []) ss))
        (r.more (s ∷ ss) (at_fit low high s ss (record { starts = n.starts; ends = n.ends; rest = subst (λ m. fit (m + 2) high ss ≡ true) e h })));
  })

  pub spans_all : (place low left : ℕ) (xs : List Span) → SpansTo f bytes at from high count place low left xs → left ≡ 0 → length bytes ≤ place → AreSpansAt f bytes at from high count xs
  spans_all place low left xs r done end = record {
    whole = spans_past place low left r.walked done ∙ ap (λ b. if b then None else Some place) (le-leb (length bytes) place end);
    fitting = subst (λ l. fit from high l ≡ true) (append-nil xs) (r.more [] refl);
    counted = omega (arith, r.counted, done);
    has = r.has;
    spelled = r.spelled ∙ ap (λ l. flat_map (span_bytes f) xs ++ l) (drop_all place bytes end) ∙ append-nil (flat_map (span_bytes f) xs);
  }

  pub spans_after : (place low left : ℕ) (xs : List Span) (end : ℕ) → SpansTo f bytes at from high count place low left xs → left ≡ 0 → place ≡ end → end < length bytes
      → first_fault (spans_fields f bytes at from high count) ≡ Some end
  spans_after place low left xs end r done is more =
      spans_past place low left r.walked done
      ∙ ap (λ p. if leb (length bytes) p then None else Some p) is ∙ ap (λ b. if b then None else Some end) (over end (length bytes) more)
    where
      over : (a b : ℕ) → a < b → leb b a ≡ false
      over a b h = grind (arith, nat_tests)
