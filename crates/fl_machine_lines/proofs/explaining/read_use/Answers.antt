use Rattle.fl_machine_lines.proofs.Places.{no_use}
use Rattle.fl_machine_lines.proofs.explaining.read_use.Goals as goal

pub returns-in_default-2 : goal.returns-in_default-2
returns-in_default-2 c =
    no_use c.read_cap.result c.args.word.now c.read_cap.ensures (λ group e. absurd (cc (c.in_default.is, e)))
