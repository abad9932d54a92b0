-- The digits of bytes, some at a time.
use Rattle.std.proofs.Common.{◌<◌, length, arith, ◌≡◌, ◌∙◌, ◌++◌, [], ◌∷◌, List, Option, ℕ, refl, sym, ap, subst, append_assoc, append-nil}
use Rattle.std.specs.List.{IsSplitAt}
use Rattle.std.proofs.lemmas.List.{take-append-drop}
use Rattle.hex.specs.Hex.{encode_with, encode_lower}
use Rattle.fl_sink.specs.Sink.{Passes}
use Rattle.fl_sink.specs.laws.Passing.{passes_none}
use Rattle.fl_answers.specs.AnswerText.{bytes_text}

pub encode_append : (few more : List ℕ) → encode_lower (few ++ more) ≡ encode_lower few ++ encode_lower more
unfolding encode_with
encode_append [] more = refl
encode_append (b ∷ few) more = ap (λ rest. encode_lower (b ∷ []) ++ rest) (encode_append few more)

-- the digits of no bytes
pub none_passes : (a : Option (List ℕ)) (pending : List ℕ) → Passes a a pending (encode_lower []) pending
unfolding encode_with
none_passes a pending = subst (Passes a a pending []) (append-nil pending) (passes_none a pending [])

-- some more, of what is left
pub some_more : (bytes done rest few more : List ℕ) → bytes ≡ done ++ rest → rest ≡ few ++ more → bytes ≡ (done ++ few) ++ more
some_more bytes done rest few more is cut = is ∙ ap (λ l. done ++ l) cut ∙ sym (append_assoc done few more)

pub some_bytes : (bytes : List ℕ) → 0 < length bytes → bytes_text bytes ≡ encode_lower bytes
some_bytes [] h = absurd (omega (arith, h))
some_bytes (b ∷ bytes) h = refl

-- what is split is both parts
pub split_whole : {xs front back : List ℕ} {mid : ℕ} → IsSplitAt xs mid front back → xs ≡ front ++ back
split_whole {xs} {mid = mid} split = sym (take-append-drop mid xs) ∙ (λ i. sym split.1 i ++ sym split.2 i)
