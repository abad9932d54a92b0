use Rattle.fl_world.proofs.Reaching.{returned_or_not}
use Rattle.fl_world.proofs.world.World.reopen.Goals as goal

pub reopen_with-requires-clause-trusted : goal.reopen_with-requires-clause-trusted
reopen_with-requires-clause-trusted g c = rw c.self.view_is c.requires.trusted

pub invariant_of-self : goal.invariant_of-self
invariant_of-self g c =
    returned_or_not g.K.Keeper.custody _ _ c.args.number _ _ c.reopen_with.ensures.absent c.reopen_with.ensures.running
    c.reopen_with.ensures.stopped c.self.invariant

pub returns-clause-absent : goal.returns-clause-absent
returns-clause-absent g c = rw (← c.self.view_is) c.reopen_with.ensures.absent

pub returns-clause-running : goal.returns-clause-running
returns-clause-running g c = rw (← c.self.view_is) c.reopen_with.ensures.running

pub returns-clause-stopped : goal.returns-clause-stopped
returns-clause-stopped g c = rw (← c.self.view_is) c.reopen_with.ensures.stopped

pub returns-clause-cause : goal.returns-clause-cause
returns-clause-cause g c = rw (← c.self.view_is) c.reopen_with.ensures.cause

pub returns-clause-broken : goal.returns-clause-broken
returns-clause-broken g c = rw (← c.self.view_is) c.reopen_with.ensures.broken

pub returns-clause-other : goal.returns-clause-other
returns-clause-other g c = rw (← c.self.view_is) c.reopen_with.ensures.other
