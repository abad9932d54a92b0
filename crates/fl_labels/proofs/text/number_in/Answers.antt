use Rattle.std.proofs.Common.{◌≡◌, ◌<◌, ◌≤◌, ◌+◌, ◌-◌, ◌*◌, length, take, drop, get_or, subst, sym, arith, refl}
use Rattle.std.specs.Char.{digit_value}
use Rattle.std.specs.Int.{IsOutOfRange}
use Rattle.std.specs.Str.Parse.{digits_value}
use Rattle.std.proofs.lemmas.Int.Digits.{digits_more}
use Rattle.std.proofs.lemmas.List.{drop_all}
use Rattle.fl_labels.specs.parts.Digits.{NoDigitFirst, IsNumberThen}
use Rattle.fl_labels.proofs.Digits.{first_of, first_digit, number_then, too_large, ended_there, next_value, more_at, rest_at, length-more}
use Rattle.fl_labels.proofs.text.number_in.Goals as goal
use Rattle.fl_labels.proofs.text.number_in.Goals.{in_default-via-then-bytes-lt1, in_default-via-else-bytes-lt1+then-bytes-lt49, in_default-via-else-bytes-lt1+else-bytes-lt49+else-bytes-lt58}

pub returns-in_default : goal.returns-in_default
returns-in_default c = λ n rest is.
    let first = first_of c.args.bytes.now n rest is in
    elim c.in_default.branch [
      | in_default-via-then-bytes-lt1 w ↦ absurd (grind (arith, first.0))
      | in_default-via-else-bytes-lt1+then-bytes-lt49 w ↦
          absurd (omega (arith, first.0, first.1, first.2))
      | in_default-via-else-bytes-lt1+else-bytes-lt49+else-bytes-lt58 w ↦
          absurd (omega (arith, first.0, first.1, first.2))
    ]

pub loop-at-init : goal.loop-at-init
loop-at-init c =
    let bytes = c.args.bytes.now in
    let some : 0 < length bytes = omega arith in
    let low : 49 ≤ get_or bytes 0 0 = omega arith in
    let high : get_or bytes 0 0 ≤ 57 = omega arith in
    let first = first_digit bytes some low high in
    record { digits = first.0; value = omega (arith, first.1); fits = omega (arith, high) }

pub returns-then-not-is_ascii_digit : goal.returns-then-not-is_ascii_digit
returns-then-not-is_ascii_digit c =
    let bytes = c.args.bytes.now in
    let at = c.loop-at.at in
    let low : 49 ≤ get_or bytes 0 0 = omega arith in
    let inside : at + 1 < length bytes = omega (arith, length-more bytes) in
    let within : at + 1 ≤ length bytes = omega arith in
    let out = subst (IsOutOfRange 48 57) (more_at bytes at) c.if-not-is_ascii_digit.ensures.cases in
    subst (λ rest. IsNumberThen bytes c.loop-at.number rest)
    (sym (rest_at bytes (take (length bytes - 1) (drop 1 bytes)) at refl))
    (number_then bytes (at + 1) c.loop-at.number (omega arith) within low
    c.loop-at.invariant.digits c.loop-at.invariant.value c.loop-at.invariant.fits
    (ended_there bytes (at + 1) inside out))

pub returns-then-number-from : goal.returns-then-number-from
returns-then-number-from c =
    let bytes = c.args.bytes.now in
    let at = c.loop-at.at in
    let inside : at + 1 < length bytes = omega (arith, length-more bytes) in
    let digit : digit_value (get_or bytes (at + 1) 0) < 10 =
    subst (λ b. digit_value b < 10) (more_at bytes at) c.if-not-is_ascii_digit.ensures.bound in
    let value : c.loop-at.number * 10 + (get_or bytes (at + 1) 0 - 48)
    ≡ digits_value 10 (take (at + 1 + 1) bytes) =
    next_value bytes (at + 1) c.loop-at.number inside digit c.loop-at.invariant.value in
    too_large bytes (at + 1 + 1)
    (digits_more 10 bytes (at + 1) inside c.loop-at.invariant.digits digit)
    (omega (arith, value, more_at bytes at))

pub loop-at-preserved : goal.loop-at-preserved
loop-at-preserved c =
    let bytes = c.args.bytes.now in
    let at = c.loop-at.at in
    let inside : at + 1 < length bytes = omega (arith, length-more bytes) in
    let digit : digit_value (get_or bytes (at + 1) 0) < 10 =
    subst (λ b. digit_value b < 10) (more_at bytes at) c.if-not-is_ascii_digit.ensures.bound in
    let value : c.loop-at.number * 10 + (get_or bytes (at + 1) 0 - 48)
    ≡ digits_value 10 (take (at + 1 + 1) bytes) =
    next_value bytes (at + 1) c.loop-at.number inside digit c.loop-at.invariant.value in
    record {
      digits = digits_more 10 bytes (at + 1) inside c.loop-at.invariant.digits digit;
      value = omega (arith, value, more_at bytes at);
      fits = omega arith;
    }

pub returns : goal.returns
returns c =
    let bytes = c.args.bytes.now in
    let at = c.loop-at.at in
    let low : 49 ≤ get_or bytes 0 0 = omega arith in
    let past : length bytes ≤ at + 1 = omega (arith, length-more bytes) in
    let within : at + 1 ≤ length bytes = omega (arith, length-more bytes) in
    let none = drop_all (at + 1) bytes past in
    subst (λ rest. IsNumberThen bytes c.loop-at.number rest) none
    (number_then bytes (at + 1) c.loop-at.number (omega arith) within low
    c.loop-at.invariant.digits c.loop-at.invariant.value c.loop-at.invariant.fits
    (subst NoDigitFirst (sym none) tt))
