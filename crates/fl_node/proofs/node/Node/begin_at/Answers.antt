use Rattle.std.proofs.Common.{sym, subst}
use Rattle.std.proofs.lemmas.Result.{err_from_is_err_and}
use Rattle.fl_system.specs.Begins.{Begins}
use Rattle.fl_system.specs.Waiting.{IsRunning}
use Rattle.fl_node.proofs.NodeLemmas.{new_name}
use Rattle.fl_node.specs.Sound.{IsListed}
use Rattle.fl_node.proofs.Sounds.{moves}
use Rattle.fl_node.proofs.node.Node.begin_at.Goals as goal

pub returns-in_err-idle-clause-begins : goal.returns-in_err-idle-clause-begins
returns-in_err-idle-clause-begins g c =
    let p = err_from_is_err_and c.from_residual.result c.from_residual.ensures.1 in
    rw (p.1, p.2, ← c.self.view_is) (Begins.taken c.in_err-idle.ensures.err)

pub returns-in_default-clause-begins : goal.returns-in_default-clause-begins
returns-in_default-clause-begins g c = rw (← c.self.view_is) (Begins.spent c.in_ok-idle.ensures.ok c.in_default.ensures)

pub invariant_of-self : goal.invariant_of-self
invariant_of-self g c =
    moves c.self.inside.state _ _ (subst IsRunning (sym c.in_ok-idle.ensures.ok) tt)
    (new_name c.self.inside.saved c.self.inside.number _ c.in-Some.ensures)
    (subst (λ s. IsListed s c.self.inside.listing.published c.self.inside.saved) c.in_ok-idle.ensures.ok c.self.invariant.listed) c.self.invariant

pub returns-clause-begins : goal.returns-clause-begins
returns-clause-begins g c = rw (← c.self.view_is) (Begins.begins c.in_ok-idle.ensures.ok c.in-Some.ensures)
