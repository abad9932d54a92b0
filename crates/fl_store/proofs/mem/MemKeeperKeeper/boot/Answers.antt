use Rattle.std.proofs.Common.{refl, arith, inl}
use Rattle.fl_store.proofs.mem.MemKeeperKeeper.boot.Goals as goal

pub returns-in_default-clause-held : goal.returns-in_default-clause-held
returns-in_default-clause-held c _ = (tt, λ after is. (_, refl, (is, rw (← c.self.view_is) (omega (arith, c.in_default.ensures)))))

pub returns-clause-held : goal.returns-clause-held
returns-clause-held c _ =
    rw (← c.self.view_is, c.in-Some.ensures.1) (tt, λ after is. (_, refl, (is, refl)))

pub returns-then-is_broken-clause-held : goal.returns-then-is_broken-clause-held
returns-then-is_broken-clause-held c _ = (tt, λ after is. (_, is, inl refl))
