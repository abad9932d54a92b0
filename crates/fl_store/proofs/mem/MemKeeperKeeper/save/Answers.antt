use Rattle.std.proofs.Common.{◌∙◌, refl, sym, ap, subst, inl}
use Rattle.fl_store.specs.Kept.{HasNamesOnce}
use Rattle.fl_store.specs.MemKeeping.{MemKept}
use Rattle.fl_store.proofs.MemLemmas.{once_after, saved_then, broken_then}
use Rattle.fl_store.proofs.mem.MemKeeperKeeper.save.Goals as goal

pub returns-then-is_broken-clause-held : goal.returns-then-is_broken-clause-held
returns-then-is_broken-clause-held c _ = (tt, λ after is. (_, is, inl refl))

pub returns-in_default-clause-held : goal.returns-in_default-clause-held
returns-in_default-clause-held c _ =
    (tt, λ after is. (_, ap (λ (k : MemKept). k.kept) c.self.view_is, is ∙ ap (λ s. record { number = c.self.inside.number; boot = c.self.inside.boot; saved = s }) c.in_default.ensures.err))

pub invariant_of-self-then-is_broken-2 : goal.invariant_of-self-then-is_broken-2
invariant_of-self-then-is_broken-2 c =
    subst HasNamesOnce (sym c.in-Ok.ensures.saved) (once_after _ _ _ (c.requires tt _ (ap (λ (k : MemKept). k.kept) c.self.view_is)) c.self.invariant)

pub invariant_of-self-2 : goal.invariant_of-self-2
invariant_of-self-2 c =
    subst HasNamesOnce (sym c.in-Ok.ensures.saved) (once_after _ _ _ (c.requires tt _ (ap (λ (k : MemKept). k.kept) c.self.view_is)) c.self.invariant)

pub returns-then-is_broken-2-clause-held : goal.returns-then-is_broken-2-clause-held
returns-then-is_broken-2-clause-held c _ =
    (tt, broken_then c.args.ops.now _ c.self.inside.number c.self.inside.boot c.self.inside.saved _ _ c.self.inside.health (ap (λ (k : MemKept). k.kept) c.self.view_is) c.in-Ok.ensures.saved c.in-Ok.ensures.health (sym c.is_broken-2.ensures ∙ c.if-is_broken-2.true))

pub returns-clause-held : goal.returns-clause-held
returns-clause-held c _ =
    (tt, saved_then c.args.ops.now _ c.self.inside.number c.self.inside.boot c.self.inside.saved _ _ c.self.inside.health (ap (λ (k : MemKept). k.kept) c.self.view_is) c.in-Ok.ensures.saved c.in-Ok.ensures.health (sym c.is_broken-2.ensures ∙ c.if-is_broken-2.false))
