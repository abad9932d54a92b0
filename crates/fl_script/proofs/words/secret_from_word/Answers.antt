use Rattle.std.proofs.Common.{◌∙◌, sym}
use Rattle.fl_script.proofs.SecretWord.{no_secret}
use Rattle.fl_script.proofs.words.secret_from_word.Goals as goal

pub returns-in_default : goal.returns-in_default
returns-in_default c = no_secret c.args.word.now c.in_default.field-0 (sym c.in_default.is ∙ c.from_hex.ensures)
