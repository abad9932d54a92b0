use Rattle.std.proofs.Common.{◌≡◌, ◌∙◌, sym, subst, IfSome}
use Rattle.fl_bench.proofs.Noted.{insert_there}
use Rattle.fl_bench.proofs.owned.Owned.insert.Goals as goal

pub invariant_of-self-else-new : goal.invariant_of-self-else-new
invariant_of-self-else-new c =
    subst (λ s. IfSome c.self.inside.past (λ past. past ≡ s))
    (sym (c.in_ok-new.ensures.ok ∙ insert_there _ _ (sym c.if-new.false ∙ c.in_ok-new.ensures.new))) c.self.invariant
