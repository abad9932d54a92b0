-- Words that are no secret's.
use Rattle.std.proofs.Common.{◌≡◌, ◌∙◌, ◌*◌, length, Err, arith}
use Rattle.hex.specs.Hex.{decode_sized}
use Rattle.hex.specs.declared.error.FromHexError.{FromHexError}
use Rattle.hex.proofs.HexLemmas.{decode_of-ok, decode_sized-twice}
use Rattle.fl_jobs.specs.declared.secret.Secret.{Secret}
use Rattle.fl_aliases.specs.Words.{Word}
use Rattle.fl_script.specs.Words.{IsSecretWord}

-- a word that is not decoded into room for a secret is that of no secret
pub no_secret : (word : Word) (e : FromHexError) → Err e ≡ decode_sized word 32 → (secret : Secret) → IsSecretWord secret word → ⊥
no_secret word e refused secret is =
    let digits = decode_of-ok word secret.bytes is in
    let sized = secret.sized in
    let long : length word ≡ 2 * 32 = omega (arith, digits.2, sized) in
    absurd (cc (refused ∙ decode_sized-twice word 32 long ∙ is))
