use Rattle.fl_machine_turns.specs.Explaining.{Explains}
use Rattle.fl_machine.specs.Shown.{Shows}
use Rattle.fl_machine.proofs.Statuses.{no_three}
use Rattle.fl_machine.proofs.explaining.named.Goals as goal

pub returns-in_default : goal.returns-in_default
returns-in_default g c = λ keys.
    rw c.starved.ensures (record {
      answer = _;
      shows = Shows.replied;
      is = Explains.who_no_room
          (rw (c.published.ensures, c.bench.ensures) at c.in_default.ensures.memory);
      quiet = no_three;
    })

pub returns : goal.returns
returns g c = λ keys.
    record {
      answer = _;
      shows = Shows.named;
      is = Explains.who (rw (c.published.ensures, c.bench.ensures) at c.in-Ok.ensures.found);
      quiet = no_three;
    }
