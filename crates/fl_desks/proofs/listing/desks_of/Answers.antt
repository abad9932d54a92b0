use Rattle.std.proofs.Common.{◌≡◌, ◌∙◌, arith, ap, length, ℕ}
use Rattle.fl_system.specs.Numbered.{items_to}
use Rattle.fl_desks.proofs.Views.{sees_whole, one_new, new_count}
use Rattle.fl_desks.proofs.listing.desks_of.Goals as goal

pub loop-preserved : goal.loop-preserved
loop-preserved c = one_new _ _ _ _ _ c.loop.invariant c.in_ok-push.ensures.items (sees_whole _ _ c.in_ok-new.ensures.0 c.in_ok-new.ensures.1)

pub returns-clause-views : goal.returns-clause-views
returns-clause-views c =
    let all : c.loop.counter ≡ c.args.count = omega (arith, c.loop.auto.counter-end, c.loop-test.false) in
    c.loop.invariant.views ∙ ap (λ (n : ℕ). items_to n (λ desk. length c.args.list.now)) all

pub returns-clause-count : goal.returns-clause-count
returns-clause-count c =
    let count = new_count _ _ _ c.loop.invariant in
    omega (arith, count, c.loop.auto.counter-end, c.loop-test.false)
