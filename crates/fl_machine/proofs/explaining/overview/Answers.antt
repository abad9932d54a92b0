use Rattle.std.proofs.Common.{◌∙◌, ap}
use Rattle.fl_explanations.specs.Lines.{pids_of}
use Rattle.fl_machine_turns.specs.Explaining.{Explains}
use Rattle.fl_machine.specs.Shown.{Shows}
use Rattle.fl_machine.proofs.Statuses.{no_three}
use Rattle.fl_machine.proofs.explaining.overview.Goals as goal

pub returns-in_default : goal.returns-in_default
returns-in_default g c = λ keys.
    rw c.starved.ensures (record {
      answer = _;
      shows = Shows.replied;
      is = Explains.show_no_room (rw c.bench.ensures at c.in_default.ensures.err);
      quiet = no_three;
    })

pub returns : goal.returns
returns g c = λ keys.
    record {
      answer = _;
      shows = Shows.overview (c.in-Ok.ensures.ok ∙ ap pids_of c.bench.ensures);
      is = Explains.show;
      quiet = no_three;
    }
