-- The words of a side, of a mode, of labels, of a secret and of a message.
use Rattle.std.specs.Prelude.{◌≡◌, ℕ, List, [], ◌∷◌, ◌≤◌, ◌<◌, codes}
use Rattle.std.specs.declared.result.Result.{Result}
use Rattle.std.specs.declared.result.Result.TheVariants.{Ok, Err}
use Rattle.hex.specs.Hex.{decode_of}
use Rattle.fl_labels.specs.Cap.{cap_cmp}
use Rattle.fl_labels.specs.Name.{name_cmp}
use Rattle.fl_labels.specs.SetBy.{SetBy, len}
use Rattle.fl_labels.specs.Text.{name_text, cap_text}
use Rattle.fl_jobs.specs.declared.job.GivenLabels.{GivenLabels}
use Rattle.fl_jobs.specs.declared.job.Side.{Side}
use Rattle.fl_jobs.specs.declared.job.Side.TheVariants.{Secrecy, Integrity as IntegritySide}
use Rattle.fl_jobs.specs.declared.job.TooLong.{TooLong}
use Rattle.fl_jobs.specs.declared.secret.Secret.{Secret}
use Rattle.fl_rules.specs.declared.endpoint.Mode.{Mode}
use Rattle.fl_rules.specs.declared.endpoint.Mode.TheVariants.{Read, Write, Both}
use Rattle.fl_message.specs.declared.message.Message.{Message}
use Rattle.fl_aliases.specs.Words.{Word}
use Rattle.fl_labels.specs.Words.{IsListing}

-- `S`, `I`
abbrev pub side_text : Side → List ℕ
side_text Secrecy = codes "S"
side_text IntegritySide = codes "I"

-- `r`, `w`, `rw`
abbrev pub mode_text : Mode → List ℕ
mode_text Read = codes "r"
mode_text Write = codes "w"
mode_text Both = codes "rw"

-- the word lists the tags of this label
pub record ListsLabel (label : SetBy name_cmp) (word : Word) : Type 0 where
  pub listed : IsListing name_text label word
  pub short : len label ≤ 256

-- the word lists more tags than a label holds
pub record ListsTooMany (word : Word) : Type 0 where
  pub tags : SetBy name_cmp
  pub listed : IsListing name_text tags word
  pub long : 256 < len tags

-- the word is that of a label, or of too long a one
abbrev pub IsLabelWord : Result (SetBy name_cmp) TooLong → Word → Type 0
IsLabelWord (Ok label) word = ListsLabel label word
IsLabelWord (Err e) word = ListsTooMany word

-- the word lists these capabilities
abbrev pub IsCapsWord : SetBy cap_cmp → Word → Type 0
IsCapsWord caps word = IsListing cap_text caps word

-- the word is the hexadecimal digits of these bytes, two of each, in either case
abbrev pub HasDigits : List ℕ → Word → Type 0
HasDigits bytes word = decode_of word ≡ Ok bytes

-- the word is the 64 digits of the secret's bytes
abbrev pub IsSecretWord : Secret → Word → Type 0
IsSecretWord secret word = HasDigits secret.bytes word

-- the word is `none` of no bytes, and else their digits
abbrev pub IsBytesWord : List ℕ → Word → Type 0
IsBytesWord [] word = word ≡ codes "none"
IsBytesWord (b ∷ bytes) word = HasDigits (b ∷ bytes) word

-- the words are those of the labels, that of secrecy first
pub record AreGivenWords (given : GivenLabels) (first second : Word) : Type 0 where
  pub secrecy : IsLabelWord given.secrecy first
  pub integrity : IsLabelWord given.integrity second

-- the words are those of the message's capabilities and of its bytes
pub record AreMessageWords (message : Message) (first second : Word) : Type 0 where
  pub caps : IsCapsWord message.caps first
  pub bytes : IsBytesWord message.payload second
