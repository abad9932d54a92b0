use Rattle.fl_chains.proofs.roots.roots_of.Goals as goal

pub returns-in-Owned : goal.returns-in-Owned
returns-in-Owned c = rw (c.in-Owned.is) c.with_gifts.ensures
