use Rattle.std.specs.Prelude.{◌≡◌, ◌+◌, ◌-◌}
use Rattle.std.proofs.Common.{arith, subst}
use Rattle.std.specs.List.{Contains}
use Rattle.fl_ops.specs.Registry.{Listed}
use Rattle.fl_chains.specs.Step.{step_cmp}
use Rattle.fl_chains.specs.Least.{FindsLeast}
use Rattle.fl_chains.specs.parts.Legs.{LeadsOn}
use Rattle.fl_chains.proofs.Walking.{IsWalk, walk_none, step_there, walk_more, walk_end}
use Rattle.fl_chains.proofs.chain.chain_from.Goals as goal

pub loop-left-init : goal.loop-left-init
loop-left-init c =
    let walk = c.in_ok-walk.walk in
    walk_none (Listed c.args.ops.now) (Contains c.args.roots.now) c.args.cap c.in-Some.root
    walk.away walk.legs.items (rw c.in-Some.is at c.in_ok-walk.ensures)
    c.new-steps.result.items c.new-steps.ensures.items

pub unwrap-step-requires : goal.unwrap-step-requires
unwrap-step-requires c =
    let U = Listed c.args.ops.now in
    let roots = Contains c.args.roots.now in
    let root = c.in-Some.root in
    let walk = c.in_ok-walk.walk in
    let before : c.loop-left.left ≡ c.loop-left.left - 1 + 1 = omega arith in
    let legs : FindsLeast step_cmp (LeadsOn walk.legs.items c.loop-left.at (c.loop-left.left - 1))
    c.least_leg.result = rw c.deref.ensures.value at c.least_leg.ensures in
    step_there U roots c.args.cap root walk.away walk.legs.items
    (rw c.in-Some.is at c.in_ok-walk.ensures) c.loop-left.at
    (c.loop-left.left - 1) c.loop-left.steps.items
    (subst (λ left. IsWalk U roots c.args.cap root walk.away c.loop-left.at left
    c.loop-left.steps.items) before c.loop-left.invariant)
    c.least_leg.result legs

pub loop-left-preserved : goal.loop-left-preserved
loop-left-preserved c =
    let U = Listed c.args.ops.now in
    let roots = Contains c.args.roots.now in
    let root = c.in-Some.root in
    let walk = c.in_ok-walk.walk in
    let before : c.loop-left.left ≡ c.loop-left.left - 1 + 1 = omega arith in
    let legs : FindsLeast step_cmp (LeadsOn walk.legs.items c.loop-left.at (c.loop-left.left - 1))
    c.least_leg.result = rw c.deref.ensures.value at c.least_leg.ensures in
    walk_more U roots c.args.cap root walk.away walk.legs.items
    (rw c.in-Some.is at c.in_ok-walk.ensures) c.loop-left.at
    (c.loop-left.left - 1) c.loop-left.steps.items
    (subst (λ left. IsWalk U roots c.args.cap root walk.away c.loop-left.at left
    c.loop-left.steps.items) before c.loop-left.invariant)
    c.unwrap-step.result (subst (FindsLeast step_cmp
    (LeadsOn walk.legs.items c.loop-left.at (c.loop-left.left - 1))) c.unwrap-step.ensures
    legs)
    c.push.new.self.items c.in_ok-push.ensures.items

pub returns : goal.returns
returns c =
    let U = Listed c.args.ops.now in
    let roots = Contains c.args.roots.now in
    let root = c.in-Some.root in
    let walk = c.in_ok-walk.walk in
    let none : c.loop-left.left ≡ 0 = omega arith in
    walk_end U roots c.args.cap root walk.away walk.legs.items
    (rw c.in-Some.is at c.in_ok-walk.ensures) c.loop-left.at c.loop-left.steps.items
    (subst (λ left. IsWalk U roots c.args.cap root walk.away c.loop-left.at left
    c.loop-left.steps.items) none c.loop-left.invariant)
