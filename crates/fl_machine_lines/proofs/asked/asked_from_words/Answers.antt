use Rattle.fl_machine_lines.proofs.Lines.{few_ask_none}
use Rattle.fl_machine_lines.proofs.asked.asked_from_words.Goals as goal

pub returns-in_default-clause-ok : goal.returns-in_default-clause-ok
returns-in_default-clause-ok c = λ bad.
    few_ask_none c.args.number c.args.words.now c.in_default.len_below
