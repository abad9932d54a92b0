use Rattle.std.proofs.Common.{ap, ◌+◌, ◌*◌, ◌/◌}
use Rattle.fl_labels.specs.declared.name.Name.{Name}
use Rattle.fl_closure.specs.parts.Block.{place_of}
use Rattle.fl_closure.proofs.Bits.{same_place}
use Rattle.fl_closure.proofs.block.place_of.Goals as goal

pub returns : goal.returns
unfolding place_of
returns c =
    same_place _ _ (ap (λ (n : Name). n.node) c.name-name.ensures) (λ i. (c.name-name.ensures i).seq / 32 * 32 + c.rank.ensures i)
