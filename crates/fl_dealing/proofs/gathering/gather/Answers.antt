use Rattle.std.proofs.Common.{◌<◌, List, length, refl, sym, subst, arith}
use Rattle.fl_dealing.specs.declared.entry.Entry.{Entry}
use Rattle.fl_dealing.specs.Gathered.{IsGathered, said_by}
use Rattle.fl_dealing.proofs.Gathers.{at_its_place}
use Rattle.fl_dealing.proofs.gathering.gather.Goals as goal

pub returns-clause-gathered : goal.returns-clause-gathered
returns-clause-gathered c =
    subst (λ (es : List Entry).
    IsGathered c.args.owners.now (said_by c.args.lanes.items c.args.taken.items) es)
    (sym c.reverse.ensures.items)
    (c.if-not-pop_all.ensures.gathered refl (c.if-not-is_empty.ensures.0 refl))

pub returns-clause-places : goal.returns-clause-places
returns-clause-places c k d h =
    let g : IsGathered c.args.owners.now (said_by c.args.lanes.items c.args.taken.items)
    c.reverse.new.self.items = returns-clause-gathered c in
    let within : k < length c.reverse.new.self.items = omega (arith, h, c.reverse.new.self.ok) in
    at_its_place c.reverse.new.self.items k d g.places within
