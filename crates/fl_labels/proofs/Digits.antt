-- Numbers that are read at the head of bytes.
use Rattle.std.proofs.Common.{◌≡◌, ◌<◌, ◌≤◌, ◌+◌, ◌-◌, ◌*◌, ◌^◌, ℕ, List, [], ◌∷◌, ◌++◌, length, take, drop, get_or, length-append, length-drop, append-nil, inl, inr, refl, sym, ap, subst, ◌∙◌, arith}
use Rattle.std.specs.Fmt.{decimal}
use Rattle.std.specs.Char.{digit_value}
use Rattle.std.specs.Int.{IsOutOfRange}
use Rattle.std.specs.Str.Parse.{AllDigits, digits_value}
use Rattle.std.proofs.Math.ListN.{get_or-append}
use Rattle.std.proofs.lemmas.Fmt.{decimal-digits_value, decimal_digit, decimal_nonempty, decimal_injective, digits_decimal, digits_value-decimal, first_decimal}
use Rattle.std.proofs.lemmas.Int.Digits.{digits_more, digits_value_more}
use Rattle.std.proofs.lemmas.List.{take-append-drop, length-take-le, get_or-take, get_or-drop, drop_more, drop-drop, take_rest}
use Rattle.std.proofs.lemmas.Str.{digit_value_digit}
use Rattle.std.proofs.lemmas.Str.Parse.{digit_at, digit_from_value, digits_value-take-le}
use Rattle.std.proofs.lemmas.Bool.{cases_eq}
use Rattle.fl_labels.specs.ItemText.{own}
use Rattle.fl_labels.specs.declared.name.Name.{Name}
use Rattle.fl_labels.specs.declared.pid.Pid.{Pid}
use Rattle.fl_labels.specs.Text.{name_text, pid_text}
use Rattle.fl_labels.specs.Words.{IsNumber}
use Rattle.fl_labels.specs.parts.Digits.{NoDigitFirst, IsNumberThen}

no_digit : (c : ℕ) (rest : List ℕ) → digit_value c < 10 → NoDigitFirst (c ∷ rest) → ⊥
no_digit c rest low out =
    let range = digit_from_value c low in
    elim out [
      | inl below ↦ absurd (omega (arith, range.0, below))
      | inr above ↦ absurd (omega (arith, range.1, above))
    ]

-- digits are the same in two spellings, and what stands behind them, where that begins with none
split_digits : (xs ys a b : List ℕ) → AllDigits 10 xs → AllDigits 10 ys → NoDigitFirst a
    → NoDigitFirst b → xs ++ a ≡ ys ++ b → (xs ≡ ys) × (a ≡ b)
split_digits [] [] a b dx dy na nb e = (refl, e)
split_digits [] (y ∷ ys) a b dx dy na nb e =
    absurd (no_digit y (ys ++ b) dy.0 (subst NoDigitFirst e na))
split_digits (x ∷ xs) [] a b dx dy na nb e =
    absurd (no_digit x (xs ++ a) dx.0 (subst NoDigitFirst (sym e) nb))
split_digits (x ∷ xs) (y ∷ ys) a b dx dy na nb e =
    let heads : x ≡ y = cc in
    let tails : xs ++ a ≡ ys ++ b = cc in
    let more = split_digits xs ys a b dx.1 dy.1 na nb tails in
    (ap (λ l. x ∷ l) more.0 ∙ ap (λ z. z ∷ ys) heads, more.1)

-- some digits of those that a text begins with are the first of them
first_digits : (xs ys a b : List ℕ) → AllDigits 10 xs → NoDigitFirst b → xs ++ a ≡ ys ++ b
    → xs ≡ take (length xs) ys
first_digits [] [] a b dx nb e = refl
first_digits [] (y ∷ ys) a b dx nb e = refl
first_digits (x ∷ xs) [] a b dx nb e =
    absurd (no_digit x (xs ++ a) dx.0 (subst NoDigitFirst (sym e) nb))
first_digits (x ∷ xs) (y ∷ ys) a b dx nb e =
    let heads : x ≡ y = cc in
    let tails : xs ++ a ≡ ys ++ b = cc in
    ap (λ l. x ∷ l) (first_digits xs ys a b dx.1 nb tails)
    ∙ ap (λ z. z ∷ take (length xs) ys) heads

-- bytes begin with one number at most
pub same_then : (bytes : List ℕ) (m n : ℕ) (a b : List ℕ) → IsNumberThen bytes m a
    → IsNumberThen bytes n b → (m ≡ n) × (a ≡ b)
same_then bytes m n a b p q =
    let low : m < 2 ^ 64 = omega (arith, p.in_range) in
    let high : n < 2 ^ 64 = omega (arith, q.in_range) in
    let cut = split_digits (decimal m) (decimal n) a b (digits_decimal own m low)
    (digits_decimal own n high) p.ended q.ended (sym p.written ∙ q.written) in
    (decimal_injective m n low high cut.0, cut.1)

-- the first byte of a number is a digit from 1 to 9
pub first_of : (bytes : List ℕ) (n : ℕ) (rest : List ℕ) → IsNumberThen bytes n rest
    → (0 < length bytes) × (49 ≤ get_or bytes 0 0) × (get_or bytes 0 0 ≤ 57)
first_of bytes n rest is =
    let high : n < 2 ^ 64 = omega (arith, is.in_range) in
    let some = decimal_nonempty n high in
    let same : get_or bytes 0 0 ≡ get_or (decimal n) 0 0 =
    ap (λ l. get_or l 0 0) is.written ∙ get_or-append (decimal n) rest 0 0 some in
    let first = first_decimal n is.above high in
    let digit = digit_at (decimal n) 0 (digits_decimal own n high) some in (
      omega (arith, some, ap length is.written, length-append (decimal n) rest),
      omega (arith, same, first),
      omega (arith, same, digit.1),
    )

-- digits after a first one that is not 0 are a number above 0
above : (n : ℕ) (ds : List ℕ) → decimal n ≡ ds → 48 < get_or ds 0 0 → 0 < n
above n ds e first = elim (cases_eq n 0) [
  | inl nil ↦
      let zeros : 48 ≡ get_or ds 0 0 =
      ap (λ l. get_or l 0 0) (sym (decimal_digit 0 (omega arith)) ∙ ap decimal (sym nil) ∙ e) in
      absurd (omega (arith, zeros, first))
  | inr more ↦ omega arith
]

-- what is read up to a byte that is no digit
pub number_then : (bytes : List ℕ) (at n : ℕ) → 0 < at → at ≤ length bytes
    → 49 ≤ get_or bytes 0 0 → AllDigits 10 (take at bytes) → n ≡ digits_value 10 (take at bytes)
    → n < 2 ^ 32 → NoDigitFirst (drop at bytes) → IsNumberThen bytes n (drop at bytes)
number_then bytes at n some within first digits value fits ended =
    let front = take at bytes in
    let head : get_or front 0 0 ≡ get_or bytes 0 0 = get_or-take at bytes 0 0 some in
    let long : 0 < length front = omega (arith, some, length-take-le at bytes within) in
    let back : decimal (digits_value 10 front) ≡ front =
    decimal-digits_value own front digits long (λ z. absurd (omega (arith, z, head, first)))
    (omega (arith, value, fits)) in
    let written : decimal n ≡ front = ap decimal value ∙ back in
    record {
      above = above n front written (omega (arith, head, first));
      in_range = fits;
      written = sym (take-append-drop at bytes) ∙ ap (λ f. f ++ drop at bytes) (sym written);
      ended = ended;
    }

-- and what is read becomes too large only in a number that is
pub too_large : (bytes : List ℕ) (at : ℕ) → AllDigits 10 (take at bytes)
    → 2 ^ 32 ≤ digits_value 10 (take at bytes) → (n : ℕ) (rest : List ℕ)
    → IsNumberThen bytes n rest → ⊥
too_large bytes at digits large n rest is =
    let front = take at bytes in
    let same : front ≡ take (length front) (decimal n) =
    first_digits front (decimal n) (drop at bytes) rest digits is.ended
    (take-append-drop at bytes ∙ is.written) in
    let value : digits_value 10 (decimal n) ≡ n =
    digits_value-decimal own n (omega (arith, is.in_range)) in
    let least = digits_value-take-le 10 (decimal n) (length front) (omega arith) in
    absurd (omega (arith, large, is.in_range, value, ap (digits_value 10) same, least))

-- a byte that is no digit stands there
pub ended_there : (bytes : List ℕ) (at : ℕ) → at < length bytes
    → IsOutOfRange 48 57 (get_or bytes at 0) → NoDigitFirst (drop at bytes)
ended_there bytes at inside out = subst NoDigitFirst (sym (drop_more bytes at 0 inside)) out

-- a number alone is one with nothing behind it
alone : (bytes : List ℕ) (n : ℕ) → IsNumber n bytes → IsNumberThen bytes n []
alone bytes n is = record {
  above = is.above;
  in_range = is.in_range;
  written = is.written ∙ sym (append-nil (decimal n));
  ended = tt;
}

pub is_alone : (bytes : List ℕ) (n : ℕ) (rest : List ℕ) → IsNumberThen bytes n rest → rest ≡ []
    → IsNumber n bytes
is_alone bytes n rest is none = record {
  above = is.above;
  in_range = is.in_range;
  written = is.written ∙ ap (λ r. decimal n ++ r) none ∙ append-nil (decimal n);
}

pub none_alone : (bytes : List ℕ)
    → ((n : ℕ) (rest : List ℕ) → IsNumberThen bytes n rest → ⊥) → (n : ℕ) → IsNumber n bytes → ⊥
none_alone bytes none n is = none n [] (alone bytes n is)

pub not_alone : (bytes : List ℕ) (m : ℕ) (rest : List ℕ) → IsNumberThen bytes m rest
    → (rest ≡ [] → ⊥) → (n : ℕ) → IsNumber n bytes → ⊥
not_alone bytes m rest is some n number =
    some (same_then bytes m n rest [] is (alone bytes n number)).1

-- a number with something else than a dot behind it
pub no_dot : (bytes : List ℕ) (m : ℕ) (behind : List ℕ) → IsNumberThen bytes m behind
    → ((rest : List ℕ) → behind ≡ 46 ∷ rest → ⊥) → (n : ℕ) (rest : List ℕ)
    → IsNumberThen bytes n (46 ∷ rest) → ⊥
no_dot bytes m behind is none n rest other =
    none rest (same_then bytes m n behind (46 ∷ rest) is other).1

-- a number is cut from what stands behind the dot after it
dotted : (bytes : List ℕ) (n : ℕ) (rest : List ℕ) → 0 < n → n < 2 ^ 32
    → bytes ≡ decimal n ++ 46 ∷ rest → IsNumberThen bytes n (46 ∷ rest)
dotted bytes n rest above high written = record {
  above = above;
  in_range = high;
  written = written;
  ended = inl (omega arith);
}

cut : (bytes : List ℕ) (m n : ℕ) (a b : List ℕ) → IsNumberThen bytes m (46 ∷ a) → 0 < n
    → n < 2 ^ 32 → bytes ≡ decimal n ++ 46 ∷ b → (m ≡ n) × (a ≡ b)
cut bytes m n a b is above high written =
    let both = same_then bytes m n (46 ∷ a) (46 ∷ b) is (dotted bytes n b above high written) in
    (both.0, ap (drop 1) both.1)

-- what has no number behind the dot is no name
pub no_seq : (bytes : List ℕ) (m : ℕ) (behind : List ℕ) → IsNumberThen bytes m (46 ∷ behind)
    → ((n : ℕ) → IsNumber n behind → ⊥) → (name : Name) → bytes ≡ name_text name → ⊥
no_seq bytes m behind is none name spelled =
    let parts = cut bytes m name.node behind (decimal name.seq) is name.node_in_range.0
    name.node_in_range.1 spelled in
    none name.seq (record {
      above = name.seq_in_range.0;
      in_range = name.seq_in_range.1;
      written = parts.1;
    })

-- and no process identifier
module _ (bytes numbers : List ℕ) (front : bytes ≡ 112 ∷ numbers) where
  numbers_of : (pid : Pid) → bytes ≡ pid_text pid
      → numbers ≡ decimal pid.node ++ 46 ∷ (decimal pid.boot ++ 46 ∷ decimal pid.serial)
  numbers_of pid is = ap (drop 1) (sym front ∙ is)

  module _ (node : ℕ) (behind : List ℕ) (first : IsNumberThen numbers node (46 ∷ behind)) where
    behind_node : (pid : Pid) → bytes ≡ pid_text pid
        → behind ≡ decimal pid.boot ++ 46 ∷ decimal pid.serial
    behind_node pid is =
        (cut numbers node pid.node behind _ first pid.node_in_range.0 pid.node_in_range.1
        (numbers_of pid is)).1

    pub no_boot : ((n : ℕ) (rest : List ℕ) → IsNumberThen behind n (46 ∷ rest) → ⊥)
        → (pid : Pid) → bytes ≡ pid_text pid → ⊥
    no_boot none pid is =
        none pid.boot (decimal pid.serial)
        (dotted behind pid.boot _ pid.boot_in_range.0 pid.boot_in_range.1 (behind_node pid is))

    pub no_serial : (boot : ℕ) (last : List ℕ) → IsNumberThen behind boot (46 ∷ last)
        → ((n : ℕ) → IsNumber n last → ⊥) → (pid : Pid) → bytes ≡ pid_text pid → ⊥
    no_serial boot last second none pid is =
        let parts = cut behind boot pid.boot last (decimal pid.serial) second pid.boot_in_range.0
        pid.boot_in_range.1 (behind_node pid is) in
        none pid.serial (record {
          above = pid.serial_in_range.0;
          in_range = pid.serial_in_range.1;
          written = parts.1;
        })

-- one more digit
pub next_value : (bytes : List ℕ) (at n : ℕ) → at < length bytes
    → digit_value (get_or bytes at 0) < 10 → n ≡ digits_value 10 (take at bytes)
    → n * 10 + (get_or bytes at 0 - 48) ≡ digits_value 10 (take (at + 1) bytes)
next_value bytes at n inside low value =
    let range = digit_from_value (get_or bytes at 0) low in
    let digit : digit_value (get_or bytes at 0) ≡ get_or bytes at 0 - 48 =
    omega (arith, range.0, digit_value_digit (get_or bytes at 0) range) in
    omega (arith, value, digit, digits_value_more 10 bytes at inside)

-- what is behind the first byte
pub more_at : (bytes : List ℕ) (at : ℕ)
    → get_or (take (length bytes - 1) (drop 1 bytes)) at 0 ≡ get_or bytes (at + 1) 0
more_at bytes at =
    let place : 1 + at ≡ at + 1 = omega arith in
    ap (λ l. get_or l at 0) (take_rest bytes 1) ∙ get_or-drop 1 bytes at 0
    ∙ ap (λ i. get_or bytes i 0) place

pub rest_at : (bytes rest : List ℕ) (at : ℕ) → rest ≡ take (length bytes - 1) (drop 1 bytes)
    → take (length rest - at) (drop at rest) ≡ drop (at + 1) bytes
rest_at bytes rest at is =
    let place : 1 + at ≡ at + 1 = omega arith in
    take_rest rest at ∙ ap (drop at) (is ∙ take_rest bytes 1) ∙ drop-drop at 1 bytes
    ∙ ap (λ i. drop i bytes) place

-- the first digit is what is read first
pub first_digit : (bytes : List ℕ) → 0 < length bytes → 49 ≤ get_or bytes 0 0
    → get_or bytes 0 0 ≤ 57
    → AllDigits 10 (take 1 bytes) × (get_or bytes 0 0 - 48 ≡ digits_value 10 (take 1 bytes))
first_digit [] some low high = absurd (omega (arith, some))
first_digit (b ∷ bytes) some low high =
    let none : AllDigits 10 (take 0 (b ∷ bytes)) = tt in
    let value : digit_value b + 48 ≡ b = digit_value_digit b (omega arith, high) in
    let small : digit_value b < 10 = omega (arith, value, high) in (
      digits_more 10 (b ∷ bytes) 0 some none small,
      omega (arith, next_value (b ∷ bytes) 0 0 some small refl),
    )

pub length-more : (bytes : List ℕ)
    → length (take (length bytes - 1) (drop 1 bytes)) ≡ length bytes - 1
length-more bytes = ap length (take_rest bytes 1) ∙ length-drop 1 bytes
