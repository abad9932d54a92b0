-- Numbers one after another.
use Rattle.std.proofs.Common.{◌≡◌, ◌<◌, ◌≤◌, ◌∙◌, ◌+◌, ◌++◌, [], ◌∷◌, List, ℕ, refl, ap, take, drop, length, codes, arith}
use Rattle.std.proofs.lemmas.List.{take_all}
use Rattle.std.proofs.lemmas.List.FromFn.{length-range_with_len, get_or-range_with_len}
use Rattle.std.specs.Fmt.{decimal}
use Rattle.std.specs.List.{range_with_len}
use Rattle.fl_sink.specs.laws.Pieces.{flat_map_more, flat_map_at}
use Rattle.fl_replies.specs.ReplyText.{spaced_text, sent_packets_text}

abbrev spaced : ℕ → List ℕ
spaced number = 32 ∷ decimal number

inside : (first count i : ℕ) → i < count → i < length (range_with_len first count)
inside first count i h = rw (length-range_with_len first count) h

-- one more number
pub spaced_more : (first count i : ℕ) → i < count → spaced_text (take (i + 1) (range_with_len first count)) ≡ spaced_text (take i (range_with_len first count)) ++ 32 ∷ decimal (first + i)
spaced_more first count i h =
    flat_map_more spaced (range_with_len first count) i 0 (inside first count i h) ∙ ap (λ number. spaced_text (take i (range_with_len first count)) ++ spaced number) (get_or-range_with_len first count i 0 h)

-- the numbers about one
pub spaced_at : (first count i : ℕ) → i < count → spaced_text (range_with_len first count) ≡ spaced_text (take i (range_with_len first count)) ++ ((32 ∷ decimal (first + i)) ++ spaced_text (drop (i + 1) (range_with_len first count)))
spaced_at first count i h =
    flat_map_at spaced (range_with_len first count) i 0 (inside first count i h) ∙ ap (λ number. spaced_text (take i (range_with_len first count)) ++ (spaced number ++ spaced_text (drop (i + 1) (range_with_len first count)))) (get_or-range_with_len first count i 0 h)

-- all of the numbers
pub spaced_all : (first count i : ℕ) → count ≤ i → spaced_text (take i (range_with_len first count)) ≡ spaced_text (range_with_len first count)
spaced_all first count i h = ap spaced_text (take_all i (range_with_len first count) (omega (arith, h, length-range_with_len first count)))

-- some packets
some_sent : (numbers : List ℕ) → 0 < length numbers → sent_packets_text numbers ≡ codes "sent" ++ (spaced_text numbers ++ codes "\n")
some_sent [] h = absurd (omega (arith, h))
some_sent (number ∷ numbers) h = refl

pub sent_some : (first count : ℕ) → 0 < count → sent_packets_text (range_with_len first count) ≡ codes "sent" ++ (spaced_text (range_with_len first count) ++ codes "\n")
sent_some first count h = some_sent (range_with_len first count) (inside first count 0 h)
