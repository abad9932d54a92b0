use Rattle.std.proofs.Common.{◌≡◌, ◌<◌, arith, length, get_or}
use Rattle.fl_worker.specs.declared.worker.Worker.{Worker}
use Rattle.fl_manning.specs.Changes.{IsCaughtUp}
use Rattle.fl_settling.proofs.Each.{each_more, rest_more, flag_more, read_same}
use Rattle.fl_manning.proofs.catching_up.catch_up_all.Goals as goal

pub loop-worker-preserved : goal.loop-worker-preserved
loop-worker-preserved c =
    let list = c.args.press.now.list in
    let old = c.args.workers.now in
    let at = c.loop-worker in
    let cur = at.workers in
    let i = at.worker-index in
    let read = c.worker-item.result in
    let item = get_or cur i read in
    let new = c.catch_up-all.new.worker in
    let below : i < length cur = omega arith in
    let same = read_same cur i read below c.worker-item.is in
    record {
      caught_up =
          each_more (IsCaughtUp list) old cur i item new below at.invariant.rest same
          c.catch_up-all.ensures.caught_up at.invariant.caught_up;
      all =
          flag_more (λ (o w : Worker). w.desk.list ≡ list) old cur i item new at.all c.catch_up-all.result below
          at.invariant.rest same c.catch_up-all.ensures.all at.invariant.all;
      rest = rest_more (IsCaughtUp list) old cur i item new at.invariant.rest;
    }
