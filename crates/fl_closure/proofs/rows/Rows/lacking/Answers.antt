use Rattle.std.proofs.Common.{arith, sym, ap, subst, ◌<◌, ◌^◌, ◌-◌, bit_and}
use Rattle.fl_closure.specs.parts.Rows.{bits_at}
use Rattle.fl_closure.proofs.OneRow.{new_bits}
use Rattle.fl_closure.proofs.Listing.{AreLacking, lacking_none, lacking_more, lacking_same, lacking_all}
use Rattle.fl_closure.proofs.rows.Rows.lacking.Goals.{then-bits-ne0+in_ok-push, else-bits-ne0}
use Rattle.fl_closure.proofs.rows.Rows.lacking.Goals as goal

pub loop-block-init : goal.loop-block-init
loop-block-init c = lacking_none (bits_at c.args.self.now c.args.owner) c.args.blocks.now _ c.new-lacking.ensures.items

pub loop-block-preserved : goal.loop-block-preserved
loop-block-preserved c =
    let new = new_bits (bits_at c.args.self.now c.args.owner) c.block-item.result (bit_and c.block-item.result.bits (4294967295 - c.bits_at.result))
    (subst (λ b. b < 2 ^ 32) c.bits_at.ensures c.bits_at.type_inv) (ap (λ b. bit_and c.block-item.result.bits (4294967295 - b)) c.bits_at.ensures) in
    elim c.if-bits-ne0.branch [
      | then-bits-ne0+in_ok-push w ↦ rw w.lacking-is (subst (AreLacking (bits_at c.args.self.now c.args.owner) _) (sym w.in_ok-push.ensures.items)
          (lacking_more (bits_at c.args.self.now c.args.owner) c.args.blocks.now _ _ _ c.loop-block-test.true c.block-item.is c.loop-block.invariant _ new))
      | else-bits-ne0 w ↦ rw w.lacking-is
          (lacking_same (bits_at c.args.self.now c.args.owner) c.args.blocks.now _ _ _ c.loop-block-test.true c.block-item.is c.loop-block.invariant _ new w.if-bits-ne0.false)
    ]

pub returns : goal.returns
returns c = lacking_all (bits_at c.args.self.now c.args.owner) c.args.blocks.now _ _ (omega (arith, c.loop-block-test.false)) c.loop-block.invariant
