use Rattle.std.proofs.Common.{subst, IfErr, IfOk}
use Rattle.fl_system.specs.Joins.{Joins}
use Rattle.fl_system.specs.declared.reply.Reply.TheVariants as replies
use Rattle.fl_nodes.specs.Joining.{GivesBack, IsRefused, TakesIn}
use Rattle.fl_world.proofs.Reaching.{joined_or_not, joins_known, no_stray, refused_known}
use Rattle.fl_world.proofs.world.World.join.Goals as goal

pub invariant_of-self : goal.invariant_of-self
invariant_of-self g c =
    joined_or_not g.K.Keeper.custody _ _ c.args.number _ c.join.result
    (joins_known g.K.Keeper.custody _ _ c.args.number _ (no_stray c.law_names.ensures.owned) c.self.invariant c.join.result c.join.ensures.joins)
    c.join.ensures.same c.self.invariant

pub returns-clause-joins : goal.returns-clause-joins
returns-clause-joins g c =
    subst (λ old. IfOk c.join.result (λ boot. TakesIn g.K.Keeper.custody old c.args.keeper c.join.new.self
    (λ w k w'. Joins w c.args.number k (replies.Booted boot) w')))
    c.self.view_is
    (joins_known g.K.Keeper.custody _ _ c.args.number _ (no_stray c.law_names.ensures.owned) c.self.invariant c.join.result c.join.ensures.joins)

pub returns-clause-refused : goal.returns-clause-refused
returns-clause-refused g c =
    subst (λ old. IfErr c.join.result (λ e. GivesBack g.K.Keeper.custody old c.args.keeper c.join.new.self e.1
    (IsRefused c.args.number e.0)))
    c.self.view_is
    (refused_known g.K.Keeper.custody _ _ c.args.number _ (no_stray c.law_names.ensures.owned) c.self.invariant c.join.result c.join.ensures.refused)

pub returns-clause-there : goal.returns-clause-there
returns-clause-there g c = rw (← c.self.view_is) c.join.ensures.there
