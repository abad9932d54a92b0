use Rattle.std.proofs.Common.{◌∙◌, arith, sym}
use Rattle.fl_machine_lines.proofs.Places.{a_number, zero_text}
use Rattle.fl_machine_lines.proofs.explaining.read_place.Goals as goal

pub returns-in-text : goal.returns-in-text
returns-in-text c = record { in_range = omega arith; written = c.in-text.is ∙ sym zero_text }

pub returns-in_default : goal.returns-in_default
returns-in_default c =
    a_number c.read_number.result c.args.word.now c.in_default.not-text c.read_number.ensures
