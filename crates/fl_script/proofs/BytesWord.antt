-- Words that are those of many bytes.
use Rattle.std.specs.Prelude.{◌≡◌, ◌<◌, ℕ, List, [], ◌∷◌, length, Result, Ok, Err}
use Rattle.std.proofs.Common.{arith}
use Rattle.hex.specs.Hex.{decode_of}
use Rattle.hex.proofs.HexLemmas.{decode_of-ok}
use Rattle.fl_aliases.specs.Words.{Word}
use Rattle.fl_script.specs.Words.{IsBytesWord}
use Rattle.fl_script.specs.declared.unread.Unread.{Unread}
use Rattle.fl_script.specs.parts.Reads.{StarvesIf}

-- the digits of more than no bytes
pub many_bytes : (word : Word) (bytes : List ℕ) → decode_of word ≡ Ok bytes → 32 < length word → IsBytesWord bytes word
many_bytes word [] is long =
    let digits = decode_of-ok word [] is in
    absurd (omega (arith, digits.2, long))
many_bytes word (b ∷ bytes) is long = is

-- who is never refused memory is not refused it there either
pub never_starved : {T : Type 0} (P : Type 0) (r : Result T Unread) → StarvesIf r ⊥ → StarvesIf r P
never_starved P (Ok x) never = never
never_starved P (Err e) never = λ h. absurd (never h)
