use Rattle.std.proofs.Common.{arith}
use Rattle.fl_seal.proofs.Bits.{same_more, none_more}
use Rattle.fl_seal.proofs.seal.are_same.Goals as goal

pub loop-at-preserved : goal.loop-at-preserved
loop-at-preserved c =
    let at = c.loop-at in
    record {
      same = same_more c.args.one.now c.args.other.now at.at (omega (arith, c.type_inv.one)) (omega (arith, c.requires))
          at.differing at.invariant.same;
      differs = none_more c.args.one.now c.args.other.now at.at (omega (arith, c.type_inv.one)) (omega (arith, c.requires))
          at.differing at.invariant.differs;
    }
