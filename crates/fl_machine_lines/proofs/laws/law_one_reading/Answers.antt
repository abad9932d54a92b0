use Rattle.fl_machine_lines.specs.laws.OneReading.{one_reading}
use Rattle.fl_machine_lines.proofs.laws.law_one_reading.Goals as goal

pub returns : goal.returns
returns c = one_reading
