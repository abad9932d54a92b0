use Rattle.std.proofs.Common.{refl}
use Rattle.fl_closure.proofs.Listing.{none_used, no_bit, no_use, no_name, some_used}
use Rattle.fl_closure.proofs.block.Block.used_at.Goals.{then-self-bit-eq0-via-then-self-bit-eq0, then-self-bit-eq0-via-else-self-bit-eq0+then-self-ne3, then-self-bit-eq0-via-else-self-bit-eq0+else-self-ne3+then-seq-eq0}
use Rattle.fl_closure.proofs.block.Block.used_at.Goals as goal

pub returns-then-self-bit-eq0 : goal.returns-then-self-bit-eq0
returns-then-self-bit-eq0 c = none_used c.args.self c.args.bit (elim c.then-self-bit-eq0.branch [
  | then-self-bit-eq0-via-then-self-bit-eq0 w ↦ no_bit c.args.self c.args.bit w.if-self-bit-eq0.true
  | then-self-bit-eq0-via-else-self-bit-eq0+then-self-ne3 w ↦ no_use c.args.self c.args.bit c.requires w.if-self-ne3.true
  | then-self-bit-eq0-via-else-self-bit-eq0+else-self-ne3+then-seq-eq0 w ↦ no_name c.args.self c.args.bit c.requires w.if-seq-eq0.true
])

pub returns : goal.returns
returns c = some_used c.args.self c.args.bit c.requires c.if-self-bit-eq0.false c.if-self-ne3.false _ refl refl
