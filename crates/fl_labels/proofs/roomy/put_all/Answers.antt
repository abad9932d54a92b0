use Rattle.std.proofs.Common.{arith, sym}
use Rattle.fl_labels.specs.CapOrder.{cap_total, cap_exact}
use Rattle.fl_labels.proofs.Unions.{holds_more}
use Rattle.fl_labels.proofs.roomy.put_all.Goals as goal

pub loop-cap-preserved : goal.loop-cap-preserved
loop-cap-preserved c = record {
  fits = c.put.ensures.fits;
  rises = c.put.ensures.rises;
  room = omega (arith, c.loop-cap.invariant.room, c.loop-cap-test.true, c.put.ensures.len, c.put.ensures.capacity);
  holds = holds_more cap_total cap_exact _ _ _ c.args.others.now c.loop-cap.cap-index _ c.loop-cap-test.true (sym c.cap-item.is) c.loop-cap.invariant.holds c.put.ensures.members;
}
