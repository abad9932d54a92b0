use Rattle.fl_ops.specs.Registry.{Listed}
use Rattle.fl_chains.proofs.Ways.{all_walked, no_steps_lead}
use Rattle.fl_chains.proofs.groups.steps_to.Goals as goal

pub returns-then-not-is_put-clause-found : goal.returns-then-not-is_put-clause-found
returns-then-not-is_put-clause-found c = rw (c.new.ensures.items)
    (no_steps_lead (Listed c.args.ops.now) c.args.cap (c.is_put.ensures.fails c.if-not-is_put.true))

pub returns-clause-found : goal.returns-clause-found
returns-clause-found c =
    let walk = c.in_ok-walk.walk in
    all_walked (Listed c.args.ops.now) c.args.cap walk.legs.items walk.away walk.root
    c.in_ok-walk.ensures
