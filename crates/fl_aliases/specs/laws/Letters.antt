-- Letters as they are kept, and as texts.
use Rattle.std.proofs.Common.{◌≡◌, ℕ, ◌<◌, true, List, ◌++◌, length, take, drop, replicate, sym, ap, subst, ◌∙◌, arith}
use Rattle.std.specs.Str.{IsUtf8}
use Rattle.std.proofs.Math.Seq.{take-append_seam}
use Rattle.std.proofs.lemmas.List.{drop-replicate}
use Rattle.std.proofs.lemmas.List.Elements.{All-weaker}
use Rattle.std.proofs.lemmas.Str.{IsUtf8-from_ascii}
use Rattle.std.proofs.lemmas.Str.Ascii.{IsAscii-from_all}
use Rattle.std.proofs.lemmas.Bool.Decides.{nat_tests}
use Rattle.fl_aliases.specs.Alias.{is_letter, AllLetters, IsAlias, padded}

-- letters with zeros behind them are kept so
pub held : (letters zeros : List ℕ) → zeros ≡ replicate 32 0 → IsAlias letters
    → let bytes = letters ++ drop (length letters) zeros in
    (bytes ≡ padded (take (length letters) bytes)) × (length (take (length letters) bytes) ≡ length letters) × IsAlias (take (length letters) bytes)
held letters zeros e alias =
    let bytes = letters ++ drop (length letters) zeros in
    let front : take (length letters) bytes ≡ letters = take-append_seam letters _ in (
      ap (λ zs. letters ++ drop (length letters) zs) e ∙ ap (λ zs. letters ++ zs) (drop-replicate (length letters) 32 0) ∙ ap padded (sym front),
      ap length front,
      subst IsAlias (sym front) alias,
    )

letter_ascii : (b : ℕ) → is_letter b ≡ true → b < 128
letter_ascii b h = grind (arith, nat_tests)

pub letters_utf8 : (bytes : List ℕ) → AllLetters bytes → IsUtf8 bytes
letters_utf8 bytes h = IsUtf8-from_ascii bytes (IsAscii-from_all bytes (All-weaker (λ b. is_letter b ≡ true) (λ b. b < 128) letter_ascii bytes h))
