use Rattle.std.proofs.Common.{◌≡◌, ◌<◌, ◌+◌, ◌^◌, take}
use Rattle.std.specs.Str.Parse.{AllDigits, digits_value}
use Rattle.fl_labels.proofs.text.number_in.Given as goal

-- the bytes so far are digits, and the number that they write is not too large
abbrev pub invariant-loop-at : goal.invariant-loop-at
invariant-loop-at l = record {
  digits : AllDigits 10 (take (l.at + 1) l.fn.bytes);
  value : l.number ≡ digits_value 10 (take (l.at + 1) l.fn.bytes);
  fits : l.number < 2 ^ 32;
}
