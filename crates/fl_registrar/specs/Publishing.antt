-- What publishing leaves of a node.
use Rattle.std.specs.Prelude.{◌≡◌}
use Rattle.fl_node.specs.Over.{NodeOver}

-- its keeper and what is saved are as before, and it was opened as often
pub record IsSameButList {K : Type 0} (old new : NodeOver K) : Type 0 where
  pub number : new.node.number ≡ old.node.number
  pub boot : new.node.boot ≡ old.node.boot
  pub saved : new.node.saved ≡ old.node.saved
  pub keeper : new.keeper ≡ old.keeper
