use Rattle.std.proofs.Common.{refl, sym, subst}
use Rattle.std.specs.Prelude.{◌≡◌, IfSome, true}
use Rattle.fl_labels.specs.Cap.{cap_cmp}
use Rattle.fl_labels.specs.CapOrder.{cap_total, cap_exact}
use Rattle.fl_labels.specs.SetBy as set
use Rattle.fl_labels.specs.laws.SortedVec.{answers}
use Rattle.fl_monitor.proofs.holder.seek.Goals as goal

pub returns-in-Some : goal.returns-in-Some
returns-in-Some c =
    sym (subst (λ r. IfSome r (λ _. set.contains (set.of_list {R = cap_cmp} c.args.caps.now) c.args.cap ≡ true)) c.in-Some.is c.near.ensures)

pub returns-in-None : goal.returns-in-None
returns-in-None c =
    sym (answers cap_total cap_exact c.args.caps.now _ c.requires refl c.args.caps.now refl c.args.cap _ c.binary_search.ensures.bound c.binary_search.ensures.position)
