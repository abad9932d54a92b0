use Rattle.fl_ops.specs.Registry.{Listed}
use Rattle.fl_chains.proofs.Ways.{leg_leads, on_err, own_leads, put_leads, rising_groups}
use Rattle.fl_chains.proofs.groups.groups_to.Goals as goal

pub returns-in_err-groups-clause-memory : goal.returns-in_err-groups-clause-memory
returns-in_err-groups-clause-memory c = on_err c.from_residual.result
    (own_leads (Listed c.args.ops.now) c.args.cap c.in_err-groups.ensures.memory)

pub returns-in_err-legs-clause-memory : goal.returns-in_err-legs-clause-memory
returns-in_err-legs-clause-memory c = on_err c.from_residual-in_err-legs.result
    (put_leads (Listed c.args.ops.now) c.args.cap c.in_err-legs.ensures.memory)

pub returns-in_err-add_groups-clause-memory : goal.returns-in_err-add_groups-clause-memory
returns-in_err-add_groups-clause-memory c =
    let begun = c.in_err-add_groups.ensures.memory in
    on_err c.from_residual-in_err-add_groups.result
    (leg_leads (Listed c.args.ops.now) c.args.cap c.in_ok-legs.legs.items
    c.in_ok-legs.ensures.found begun.0 (rw c.deref.ensures.value at begun.1))

pub returns-clause-found : goal.returns-clause-found
returns-clause-found c =
    rising_groups c.args.ops.now c.args.cap c.in_ok-groups.groups.items
    c.add_groups.new.groups.items c.arrange.new.items.items c.in_ok-legs.legs.items
    c.in_ok-groups.ensures.found c.in_ok-legs.ensures.found
    (rw c.deref.ensures.value at c.in_ok-add_groups.ensures.found) c.arrange.ensures
