use Rattle.std.proofs.Common.{rules, ◌∙◌}
use Rattle.fl_worker.proofs.Doing.{is_right, is_last}
use Rattle.fl_worker.proofs.serving.serve_one.Goals as goal

pub returns-in-Ok-clause-entry : goal.returns-in-Ok-clause-entry
returns-in-Ok-clause-entry g c =
    let does = rw c.in-Some.is at c.decide-desk.ensures.does in
    let list = c.decide-desk.result.0.list in
    let done = c.decide-desk.new.bench in
    is_right c.args.task list c.args.bench.now done c.settle.new.bench c.in-Some.answer _
    (record { of = record { place = search rules; job = search rules }; seen = search rules })
    does c.in-Ok.ensures.ok

pub returns-in-Err-clause-entry : goal.returns-in-Err-clause-entry
returns-in-Err-clause-entry g c =
    let does = rw c.in-Some.is at c.decide-desk.ensures.does in
    let list = c.decide-desk.result.0.list in
    let done = c.decide-desk.new.bench in
    let entry = c.undone-in-Err in
    is_last c.args.task list c.args.bench.now done c.settle.new.bench c.in-Some.answer
    entry.result c.in-Err.fault
    (record {
      of = record {
        place = entry.ensures.place;
        job = entry.ensures.job ∙ c.of-asked.ensures;
      };
      seen = entry.ensures.seen ∙ c.seen-seen.ensures;
    })
    does entry.ensures.told c.in-Err.ensures.fault c.in-Err.ensures.err
