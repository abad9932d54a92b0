use Rattle.std.proofs.Common.{arith}
use Rattle.fl_sealed_packets.proofs.Rows.{row_to, none_from}
use Rattle.fl_sealed_packets.proofs.ours.in_a_row.Goals as goal

pub loop-low-preserved-then-ops-middle : goal.loop-low-preserved-then-ops-middle
loop-low-preserved-then-ops-middle c =
    let i = c.loop-low.invariant in
    record {
      order = omega (arith, c.loop-low-test.true);
      inside = i.inside;
      row = row_to c.args.ops.now c.requires.rise c.args.from c.requires.above _ c.index-ops-middle.result (omega (arith, i.inside, c.loop-low-test.true)) c.if-ops-middle.true;
      others = i.others;
    }

pub loop-low-preserved : goal.loop-low-preserved
loop-low-preserved c =
    let i = c.loop-low.invariant in
    record {
      order = omega (arith, c.loop-low-test.true);
      inside = omega (arith, i.inside, c.loop-low-test.true);
      row = i.row;
      others = none_from c.args.ops.now c.requires.rise c.args.from c.requires.above _ c.index-ops-middle.result (omega (arith, i.inside, c.loop-low-test.true)) c.if-ops-middle.false;
    }
