use Rattle.fl_world.proofs.Along.{are_moments, run_of, lasts}
use Rattle.fl_world.proofs.laws.law_run.Goals as goal

pub returns-clause-moments : goal.returns-clause-moments
returns-clause-moments c = λ w w' events replies run. are_moments w events replies w' run

pub returns-clause-back : goal.returns-clause-back
returns-clause-back c = λ w w' events replies ms are. run_of w events replies w' ms are

pub returns-clause-lasts : goal.returns-clause-lasts
returns-clause-lasts c = λ w w' events replies run reached.
    lasts c.law_headline.ensures c.law_lasting.ensures w events replies w' run reached
