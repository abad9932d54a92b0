use Rattle.std.proofs.Common.{sym, ◌∙◌}
use Rattle.fl_closure.proofs.Bits.{same_by_eq}
use Rattle.fl_closure.specs.laws.Told.{told}
use Rattle.fl_closure.proofs.block.Block.has.Goals as goal

pub returns-then-eq : goal.returns-then-eq
returns-then-eq c =
    told _ (λ m. (sym (same_by_eq _ _ _ c.eq.ensures c.if-eq.true ∙ c.place_of.ensures), m)) (λ h. h.1) c.marks.ensures
