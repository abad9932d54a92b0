use Rattle.std.proofs.lemmas.Str.{IsUtf8-from_ascii}
use Rattle.fl_script.proofs.cut.push_piece.Goals as goal

pub from_utf8_unchecked-requires : goal.from_utf8_unchecked-requires
from_utf8_unchecked-requires g c = IsUtf8-from_ascii c.args.piece.now c.requires
