use Rattle.fl_explanations.proofs.Named.{everybody_some}
use Rattle.fl_explanations.proofs.naming.write_everybody.Goals as goal

pub returns-in-Some-clause-puts : goal.returns-in-Some-clause-puts
returns-in-Some-clause-puts g c = rw (everybody_some c.args.everybody c.in-Some.name c.in-Some.is)
    c.write_name.ensures.puts
