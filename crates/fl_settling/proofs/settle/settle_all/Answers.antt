use Rattle.std.proofs.Common.{arith, ◌<◌, length, get_or}
use Rattle.fl_settling.specs.Settled.{IsSettled, IsFine}
use Rattle.fl_settling.proofs.Each.{each_more, rest_more, flag_more, read_same}
use Rattle.fl_settling.proofs.Ending.{ends_at}
use Rattle.fl_settling.proofs.settle.settle_all.Goals as goal

pub loop-worker-preserved : goal.loop-worker-preserved
loop-worker-preserved c =
    let list = c.args.press.now.list in
    let deeds = c.args.deeds.now in
    let first = c.args.first in
    let old = c.args.workers.now in
    let at = c.loop-worker in
    let cur = at.workers in
    let i = at.worker-index in
    let read = c.worker-item.result in
    let item = get_or cur i read in
    let new = c.settle-fine.new.worker in
    let failed = c.args.failed in
    let below : i < length cur = omega arith in
    let same = read_same cur i read below c.worker-item.is in
    record {
      settled =
          each_more (IsSettled first list deeds failed) old cur i item new below at.invariant.rest
          same c.settle-fine.ensures.settled at.invariant.settled;
      fine =
          flag_more (IsFine first list deeds failed) old cur i item new at.fine
          c.settle-fine.result below at.invariant.rest same c.settle-fine.ensures.fine at.invariant.fine;
      rest = rest_more (IsSettled first list deeds failed) old cur i item new at.invariant.rest;
    }

pub returns-clause-fine : goal.returns-clause-fine
returns-clause-fine c =
    let at = c.loop-worker in (
      λ t. record {
        count = omega arith;
        at = λ k d h. at.invariant.fine.0 t k d (omega arith);
      },
      λ e. at.invariant.fine.1 (λ k d h. e.at k d (omega arith)),
    )

pub returns-clause-batch : goal.returns-clause-batch
returns-clause-batch c number b b' start first list recorded of_workers back =
    let at = c.loop-worker in
    ends_at number c.args.first c.args.press.now.list b b' c.args.deeds.now c.args.failed start
    c.args.workers.now at.workers at.fine
    first list recorded of_workers back
    (record {
      count = omega arith;
      at = λ k d h. at.invariant.settled k d (omega arith);
    })
    (λ t. record {
      count = omega arith;
      at = λ k d h. at.invariant.fine.0 t k d (omega arith);
    })
