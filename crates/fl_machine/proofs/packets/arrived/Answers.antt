use Rattle.fl_machine.specs.Shown.{Shows}
use Rattle.fl_machine.proofs.Coming.{others_shown}
use Rattle.fl_machine.proofs.packets.arrived.Goals as goal
use Rattle.fl_machine.proofs.packets.arrived.Goals.{in_default-via-in-Job+in_default}
use Rattle.fl_machine.proofs.packets.arrived.Goals.{in_default-via-in_default}

pub returns-in-Refused-clause-shows : goal.returns-in-Refused-clause-shows
returns-in-Refused-clause-shows c = λ d keys n. rw c.in-Refused.is Shows.dropped

pub returns-in-Job-Arrived-clause-shows : goal.returns-in-Job-Arrived-clause-shows
returns-in-Job-Arrived-clause-shows c = λ d keys n.
    others_shown d c.args.reply (λ fault e. let is = c.in-Job-Arrived.is in cc)

pub returns-clause-shows : goal.returns-clause-shows
returns-clause-shows c = λ d keys n.
    others_shown d c.args.reply (λ fault e.
    elim c.in_default.branch [
      | in_default-via-in-Job+in_default w ↦ w.in_default.not-Refused fault e
      | in_default-via-in_default w ↦ w.in_default.not-Refused fault e
    ])
