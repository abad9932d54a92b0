-- What spells a key.
use Rattle.std.specs.Prelude.{◌≡◌, ℕ, ◌-◌, ◌==◌, List, length, take, slice_index, if◌then◌else◌, Ok}
use Rattle.hex.specs.Hex.{decode_of}

-- the text without the line feed at its end, if it has one
abbrev pub without_feed : List ℕ → List ℕ
without_feed text =
    if slice_index text (length text - 1) == 10 then take (length text - 1) text else text

-- but for that, the text is the 64 hexadecimal digits of these bytes, in upper or lower case
pub record SpellsKey (text key : List ℕ) : Type 0 where
  pub long : length (without_feed text) ≡ 64
  pub digits : decode_of (without_feed text) ≡ Ok key
