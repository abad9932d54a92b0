use Rattle.std.proofs.Common.{◌<◌, length, refl, ◌∙◌, arith}
use Rattle.fl_worker.specs.parts.Turns.{seated}
use Rattle.fl_worker.proofs.Doing.{done_given_up}
use Rattle.fl_worker.specs.laws.Longer.{starts_whole}
use Rattle.fl_worker.proofs.worker.Seat.give_up.Goals as goal

pub returns-clause-done : goal.returns-clause-done
returns-clause-done c old ts desk same done =
    let seat = c.args.self.now in
    let entry = c.undone-entry in
    let stopped : seat.good < length seat.entries.items =
    omega (arith, c.requires.stopped, seat.entries.ok.0) in
    done_given_up old (seated seat desk) _ ts c.args.task entry.result done refl refl
    (starts_whole desk.list)
    (record {
      of = record {
        place = entry.ensures.place;
        job = entry.ensures.job ∙ c.of-asked.ensures;
      };
      seen = entry.ensures.seen ∙ same;
    })
    c.push_reserved.ensures.items stopped refl refl refl entry.ensures.told
