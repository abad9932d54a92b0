-- Words that are no message's.
use Rattle.std.proofs.Common.{◌≡◌, ◌<◌, ◌⊎◌, inl, inr, ℕ, List, length, Option, None, Some, MatchOption, ap, sym, subst, arith}
use Rattle.fl_labels.specs.Cap.{cap_cmp}
use Rattle.fl_labels.specs.Found.{Finds}
use Rattle.fl_labels.specs.SetBy.{SetBy, len}
use Rattle.fl_message.specs.declared.message.Message.{Message}
use Rattle.fl_aliases.specs.Words.{Word}
use Rattle.fl_script.specs.Words.{IsCapsWord, IsBytesWord, AreMessageWords}
use Rattle.fl_script.specs.laws.OneWord.{same_caps, same_bytes}

module _ (first second : Word) where
  -- what a message was made of, or too much for one
  pub of_words : (caps : SetBy cap_cmp) (bytes : List ℕ) → IsCapsWord caps first → IsBytesWord bytes second
      → (made : Option Message) → MatchOption made ((64 < len caps) ⊎ (1024 < length bytes)) (λ message. (message.caps ≡ caps) × (message.payload ≡ bytes))
      → Finds made (λ message. AreMessageWords message first second)
  of_words caps bytes listed spelled (Some message) is = record {
    caps = subst (λ c. IsCapsWord c first) (sym is.0) listed;
    bytes = subst (λ b. IsBytesWord b second) (sym is.1) spelled;
  }
  of_words caps bytes listed spelled None (inl many) = λ message are.
      let same = same_caps message.caps caps (record { word = first; left = are.caps; right = listed }) in
      let few = message.few_caps in
      absurd (omega (arith, many, few, ap len same))
  of_words caps bytes listed spelled None (inr long) = λ message are.
      let same = same_bytes message.payload bytes (record { word = second; left = are.bytes; right = spelled }) in
      let short = message.few_bytes in
      absurd (omega (arith, long, short, ap length same))
